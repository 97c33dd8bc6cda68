use Rattle.levelling.proofs.Agreeing.{rounded_up}
use Rattle.levelling.proofs.bottleneck.rounded_up_no_group_is_denser_than_the_bottleneck.Goals as goal

pub returns : goal.returns
returns c = rounded_up
