use Rattle.levelling.proofs.Cutting.{wider_least}
use Rattle.levelling.proofs.level.more_usable_rigs_never_mean_more_excess.Goals as goal

pub returns : goal.returns
returns c = wider_least
