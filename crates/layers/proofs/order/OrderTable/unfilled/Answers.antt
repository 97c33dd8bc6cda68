use Rattle.layers.proofs.Unfilled.{renumbered_none}
use Rattle.layers.proofs.order.OrderTable.unfilled.Goals as goal

pub returns : goal.returns
returns c = renumbered_none
