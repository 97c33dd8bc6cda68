use Rattle.std.proofs.Common.{arith}
use Rattle.rigset.proofs.Operations.{empty_decides}
use Rattle.rigset.proofs.set.RigSet.is_empty.Goals as goal

pub returns : goal.returns
returns c = empty_decides c.args.self.word (omega arith)
