use Rattle.levelling.proofs.Reaching.{three_ways}
use Rattle.levelling.proofs.changes.the_donors_of_a_class_are_what_any_rig_with_its_pump_reaches_backwards.Goals as goal

pub returns : goal.returns
returns c = three_ways
