use Rattle.levelling.proofs.Framing.{frames}
use Rattle.levelling.proofs.level.a_larger_frame_changes_nothing.Goals as goal

pub returns : goal.returns
returns c = frames
