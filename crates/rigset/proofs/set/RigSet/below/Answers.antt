use Rattle.std.proofs.Common.{arith}
use Rattle.rigset.proofs.Operations.{below_few, below_all}
use Rattle.rigset.proofs.set.RigSet.below.Goals as goal

pub returns-then-rigs-lt-RIGS_MAX : goal.returns-then-rigs-lt-RIGS_MAX
returns-then-rigs-lt-RIGS_MAX c = below_few c.args.rigs (omega arith)

pub returns-else-rigs-lt-RIGS_MAX : goal.returns-else-rigs-lt-RIGS_MAX
returns-else-rigs-lt-RIGS_MAX c = below_all c.args.rigs (omega arith)
