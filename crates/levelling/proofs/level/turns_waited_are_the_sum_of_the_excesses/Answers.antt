use Rattle.levelling.proofs.Costing.{turns_are_excess}
use Rattle.levelling.proofs.level.turns_waited_are_the_sum_of_the_excesses.Goals as goal

pub returns : goal.returns
returns c = turns_are_excess
