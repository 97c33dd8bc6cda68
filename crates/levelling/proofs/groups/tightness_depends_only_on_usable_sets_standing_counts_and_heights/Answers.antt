use Rattle.levelling.proofs.Tightness.{depends_only}
use Rattle.levelling.proofs.groups.tightness_depends_only_on_usable_sets_standing_counts_and_heights.Goals as goal

pub returns : goal.returns
returns c = depends_only
