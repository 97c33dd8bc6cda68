use Rattle.levelling.proofs.Moving.{removing}
use Rattle.levelling.proofs.changes.removing_from_a_highest_donor_keeps_level.Goals as goal

pub returns : goal.returns
returns c = removing
