use Rattle.levelling.proofs.Tightness.{confined_placed}
use Rattle.levelling.proofs.groups.confined_pumps_are_never_more_than_placed.Goals as goal

pub returns : goal.returns
returns c = confined_placed
