use Rattle.levelling.proofs.Moving.{pulling}
use Rattle.levelling.proofs.changes.a_pull_from_a_highest_donor_keeps_level_but_for_the_rig.Goals as goal

pub returns : goal.returns
returns c = pulling
