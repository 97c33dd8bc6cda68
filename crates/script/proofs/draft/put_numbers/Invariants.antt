use Rattle.std.proofs.Common.{map, take, decimal}
use Rattle.script.specs.Drafts.{Extends}
use Rattle.script.specs.Format.{commas}
use Rattle.script.proofs.draft.put_numbers.Given as goal

abbrev pub invariant-loop-n : goal.invariant-loop-n
invariant-loop-n l = Extends l.initial.draft (commas (map decimal (take l.n-index l.numbers))) l.draft
