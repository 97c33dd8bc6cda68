use Rattle.rigset.proofs.Counts.{sum_counted}
use Rattle.rigset.proofs.laws.a_set_is_the_sum_of_what_its_rigs_count.Goals as goal

pub returns : goal.returns
returns c = sum_counted
