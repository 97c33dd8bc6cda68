use Rattle.std.proofs.Common.{◌≡◌, ◌≤◌, true, false, arith}
use Rattle.std.proofs.lemmas.Bool.Decides.{nat_tests}
use Rattle.script.proofs.Numerals.{count_if}
use Rattle.script.proofs.fields.CountFieldValue.parse.Goals as goal

pub returns : goal.returns
returns c =
    let n = c.in_ok-n.n in
    let p = c.in_ok-n.ensures in
    let yes : c.contains.result ≡ true → (1 ≤ n) × (n ≤ 4096) = λ t. grind (arith, nat_tests) in
    let no : c.contains.result ≡ false → (1 ≤ n) × (n ≤ 4096) → ⊥ = λ t h. grind (arith, nat_tests) in
    rw c.then_some.ensures (count_if n c.args.field.now p.0 p.1 c.contains.result yes no)
