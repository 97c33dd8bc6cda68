use Rattle.levelling.proofs.Tightness.{common_and_union}
use Rattle.levelling.proofs.groups.the_common_part_and_union_of_tight_groups_are_tight.Goals as goal

pub returns : goal.returns
returns c = common_and_union
