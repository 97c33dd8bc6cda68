use Rattle.std.proofs.Common.{◌≡◌, ◌+◌, ◌<◌, ◌≤◌, List, length}
use Rattle.std.specs.Iterator.Adapters.{zip_first, zip_second}
use Rattle.bounded.specs.Entries.{Refilled}
use Rattle.script.specs.Texts.{lines, lines_left, FaultyOnes}
use Rattle.script.specs.declared.faults.FaultyLine.{FaultyLine}
use Rattle.script.proofs.SoFar.{SoFar}
use Rattle.script.proofs.checking.check.Given as goal

abbrev pub invariant-loop-number : goal.invariant-loop-number
invariant-loop-number l =
    let n = (zip_first l.number-iterator).start in
    let left = lines_left (zip_second l.number-iterator) in
    (l.faults.places.ghost_name ≡ l.initial.faults.places.ghost_name)
    × (n + length left ≤ 65537)
    × (l.found < n)
    × ((es : List FaultyLine) × (l.found ≡ length es) × Refilled l.initial.faults es l.faults × SoFar FaultyOnes (lines l.text) n left es)
