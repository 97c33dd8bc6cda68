use Rattle.rigset.proofs.Operations.{same_word}
use Rattle.rigset.proofs.laws.sets_with_the_same_rigs_are_the_same_number.Goals as goal

pub returns : goal.returns
returns c = same_word
