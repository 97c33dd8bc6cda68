use Rattle.levelling.proofs.Existing.{level_exists}
use Rattle.levelling.proofs.level.pumps_that_can_be_placed_have_a_level_placement.Goals as goal

pub returns : goal.returns
returns c = level_exists
