use Rattle.std.proofs.Common.{take}
use Rattle.script.specs.Drafts.{Extends}
use Rattle.script.proofs.draft.put_all.Given as goal

abbrev pub invariant-loop-b : goal.invariant-loop-b
invariant-loop-b l = Extends l.initial.draft (take l.b-index l.bytes) l.draft
