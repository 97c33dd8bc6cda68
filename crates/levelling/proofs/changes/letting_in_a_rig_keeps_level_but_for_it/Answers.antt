use Rattle.levelling.proofs.Serving.{letting_in}
use Rattle.levelling.proofs.changes.letting_in_a_rig_keeps_level_but_for_it.Goals as goal

pub returns : goal.returns
returns c = letting_in
