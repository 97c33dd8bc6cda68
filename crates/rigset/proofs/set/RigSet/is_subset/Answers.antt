use Rattle.std.proofs.Common.{arith}
use Rattle.rigset.proofs.Operations.{subset_inside}
use Rattle.rigset.proofs.set.RigSet.is_subset.Goals as goal

pub returns : goal.returns
returns c = subset_inside c.args.self.word c.args.other.word (omega arith)
