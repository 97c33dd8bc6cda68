use Rattle.std.proofs.Common.{ℕ, ◌<◌, get_or}
use Rattle.rigset.specs.Sets.{has, AllBelow}
use Rattle.sheet.proofs.judging.all_within.Given as goal

abbrev pub invariant-loop-word : goal.invariant-loop-word
invariant-loop-word l = (t : ℕ) → t < l.word-index → AllBelow l.rigs (has (get_or l.sets t 0))
