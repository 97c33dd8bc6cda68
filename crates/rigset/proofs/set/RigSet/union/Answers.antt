use Rattle.rigset.proofs.Digits.{has_or}
use Rattle.rigset.proofs.set.RigSet.union.Goals as goal

pub returns : goal.returns
returns c = has_or c.args.self.word c.args.other.word
