use Rattle.rigset.proofs.Digits.{has_none}
use Rattle.rigset.proofs.set.RigSet.new.Goals as goal

pub returns : goal.returns
returns c = has_none
