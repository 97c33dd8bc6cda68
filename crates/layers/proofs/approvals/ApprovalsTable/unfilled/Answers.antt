use Rattle.layers.proofs.Unfilled.{approved_none}
use Rattle.layers.proofs.approvals.ApprovalsTable.unfilled.Goals as goal

pub returns : goal.returns
returns c = approved_none
