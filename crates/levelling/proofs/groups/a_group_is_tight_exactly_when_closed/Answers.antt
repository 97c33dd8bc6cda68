use Rattle.levelling.proofs.Tightness.{tight_is_closed}
use Rattle.levelling.proofs.groups.a_group_is_tight_exactly_when_closed.Goals as goal

pub returns : goal.returns
returns c = tight_is_closed
