use Rattle.levelling.proofs.Moving.{pulled}
use Rattle.levelling.proofs.changes.level_when_no_donor_to_the_rig_is_more_than_one_higher.Goals as goal

pub returns : goal.returns
returns c = pulled
