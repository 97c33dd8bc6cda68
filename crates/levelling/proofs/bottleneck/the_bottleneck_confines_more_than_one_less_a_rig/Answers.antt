use Rattle.levelling.proofs.Agreeing.{bottleneck_dense}
use Rattle.levelling.proofs.bottleneck.the_bottleneck_confines_more_than_one_less_a_rig.Goals as goal

pub returns : goal.returns
returns c = bottleneck_dense
