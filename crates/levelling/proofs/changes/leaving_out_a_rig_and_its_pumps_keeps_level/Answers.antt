use Rattle.levelling.proofs.Serving.{leaving_out}
use Rattle.levelling.proofs.changes.leaving_out_a_rig_and_its_pumps_keeps_level.Goals as goal

pub returns : goal.returns
returns c = leaving_out
