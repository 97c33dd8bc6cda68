use Rattle.std.proofs.Common.{arith}
use Rattle.rigset.proofs.Gathering.{gathered_none, gathered_one, gathered_not, gathered_all}
use Rattle.rating.proofs.rated.suited.Goals as goal
use Rattle.rating.proofs.rated.suited.Goals.{then-suits, else-suits}

pub loop-r-init : goal.loop-r-init
loop-r-init c = gathered_none c.new-set.ensures

pub loop-r-preserved : goal.loop-r-preserved
loop-r-preserved c =
    elim c.if-suits.branch [
      | then-suits w ↦ gathered_one c.loop-r.invariant (grind arith) w.insert.ensures.set w.set-is
      | else-suits w ↦ gathered_not c.loop-r.invariant (grind arith) w.set-is
    ]

pub returns : goal.returns
returns c = gathered_all c.loop-r.invariant _ (omega arith)
