use Rattle.rigset.proofs.Gathering.{Gathered}
use Rattle.rating.specs.Ratings.{suits, rig_at}
use Rattle.rating.proofs.rated.suited.Given as goal

abbrev pub invariant-loop-r : goal.invariant-loop-r
invariant-loop-r l = Gathered l.set.word (λ k. suits (rig_at l.rigs k) l.pump) l.r
