use Rattle.levelling.proofs.Agreeing.{at_most}
use Rattle.levelling.proofs.bottleneck.no_group_confines_more_than_the_greatest_height_a_rig.Goals as goal

pub returns : goal.returns
returns c = at_most
