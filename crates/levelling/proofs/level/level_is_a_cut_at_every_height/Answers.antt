use Rattle.levelling.proofs.Cutting.{level_is_cuts}
use Rattle.levelling.proofs.level.level_is_a_cut_at_every_height.Goals as goal

pub returns : goal.returns
returns c = level_is_cuts
