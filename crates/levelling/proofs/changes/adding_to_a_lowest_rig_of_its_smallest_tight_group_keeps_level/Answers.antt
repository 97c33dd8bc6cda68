use Rattle.levelling.proofs.Moving.{adding}
use Rattle.levelling.proofs.changes.adding_to_a_lowest_rig_of_its_smallest_tight_group_keeps_level.Goals as goal

pub returns : goal.returns
returns c = adding
