use Rattle.levelling.proofs.Agreeing.{agree}
use Rattle.levelling.proofs.bottleneck.level_placements_of_the_same_pumps_agree.Goals as goal

pub returns : goal.returns
returns c = agree
