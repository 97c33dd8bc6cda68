use Rattle.sheet.proofs.Filling.{Filled}
use Rattle.sheet.proofs.reading.read_sheet.Given as goal

abbrev pub invariant-loop-kind : goal.invariant-loop-kind
invariant-loop-kind g l = Filled l.permitted (g.S.Sheet.meaning l.sheet).permitted l.kind
