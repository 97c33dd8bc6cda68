use Rattle.std.proofs.Common.{arith}
use Rattle.rigset.proofs.Gathering.{gathered_none, gathered_one, gathered_not, gathered_all}
use Rattle.layers.proofs.order.Order.set_above.Goals as goal
use Rattle.layers.proofs.order.Order.set_above.Goals.{then-contains, else-contains}

pub loop-rig-init : goal.loop-rig-init
loop-rig-init c = gathered_none c.new-set.ensures

pub loop-rig-preserved : goal.loop-rig-preserved
loop-rig-preserved c =
    elim c.if-contains.branch [
      | then-contains w ↦ gathered_one c.loop-rig.invariant (grind arith) w.insert.ensures.set w.set-is
      | else-contains w ↦ gathered_not c.loop-rig.invariant (grind arith) w.set-is
    ]

pub returns : goal.returns
returns c = gathered_all c.loop-rig.invariant _ (omega arith)
