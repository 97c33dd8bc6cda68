use Rattle.rigset.proofs.Digits.{has_and}
use Rattle.rigset.proofs.set.RigSet.intersection.Goals as goal

pub returns : goal.returns
returns c = has_and c.args.self.word c.args.other.word
