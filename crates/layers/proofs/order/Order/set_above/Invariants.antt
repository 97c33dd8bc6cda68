use Rattle.rigset.specs.Sets.{has}
use Rattle.rigset.proofs.Gathering.{Gathered}
use Rattle.layers.specs.Layers.{rig_below}
use Rattle.layers.proofs.order.Order.set_above.Given as goal

abbrev pub invariant-loop-rig : goal.invariant-loop-rig
invariant-loop-rig l = Gathered l.set.word (λ r. has l.below.word (rig_below l.self.0.now r)) l.rig
