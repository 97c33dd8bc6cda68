use Rattle.std.proofs.Common.{◌≡◌, ℕ, ◌+◌, ◌≤◌, List, ◌++◌, length, vec_items}
use Rattle.std.specs.Iterator.Adapters.{zip_first, zip_second}
use Rattle.script.specs.Texts.{lines, lines_left}
use Rattle.script.proofs.SoFar.{SoFar}
use Rattle.readback.specs.Telling.{LinesTold}
use Rattle.readback.proofs.telling.tell_lines.Given as goal

abbrev pub invariant-loop-number : goal.invariant-loop-number
invariant-loop-number l =
    let n = (zip_first l.number-iterator).start in
    let left = lines_left (zip_second l.number-iterator) in
    (n + length left ≤ 65537)
    × ((body : List ℕ) × (vec_items l.out ≡ vec_items l.initial.out ++ body) × SoFar LinesTold (lines l.text) n left body)
