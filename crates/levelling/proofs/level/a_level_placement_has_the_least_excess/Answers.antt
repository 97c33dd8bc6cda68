use Rattle.levelling.proofs.Cutting.{level_least}
use Rattle.levelling.proofs.level.a_level_placement_has_the_least_excess.Goals as goal

pub returns : goal.returns
returns c = level_least
