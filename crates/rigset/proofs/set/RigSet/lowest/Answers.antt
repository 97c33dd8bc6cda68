use Rattle.std.proofs.Common.{arith}
use Rattle.rigset.proofs.Digits.{trailing_lowest}
use Rattle.rigset.proofs.Operations.{some_rig}
use Rattle.rigset.proofs.set.RigSet.lowest.Goals as goal

pub returns : goal.returns
returns c =
    let m = c.args.self.word in
    trailing_lowest m (some_rig m c.is_empty.result c.is_empty.ensures c.if-is_empty.false) (omega arith)
