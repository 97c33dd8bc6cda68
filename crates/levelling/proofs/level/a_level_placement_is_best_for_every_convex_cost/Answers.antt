use Rattle.levelling.proofs.Costing.{convex_best}
use Rattle.levelling.proofs.level.a_level_placement_is_best_for_every_convex_cost.Goals as goal

pub returns : goal.returns
returns c = convex_best
