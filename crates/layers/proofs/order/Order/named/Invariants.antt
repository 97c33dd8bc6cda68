use Rattle.layers.proofs.Orders.{Names}
use Rattle.layers.proofs.order.Order.named.Given as goal

abbrev pub invariant-loop-rig : goal.invariant-loop-rig
invariant-loop-rig l = Names l.set.word l.self.0.now l.rig-index
