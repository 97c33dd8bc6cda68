use Rattle.std.proofs.Common.{length}
use Rattle.script.proofs.Numerals.{Tail}
use Rattle.script.proofs.fields.MaskFieldValue.parse.Given as goal

abbrev pub invariant-loop-b : goal.invariant-loop-b
invariant-loop-b l = Tail l.field (length l.yielded) l.set
