use Rattle.levelling.proofs.Reaching.{one_smallest}
use Rattle.levelling.proofs.groups.any_rigs_have_one_smallest_tight_group.Goals as goal

pub returns : goal.returns
returns c = one_smallest
