use Rattle.std.proofs.Common.{List, ℕ, take, drop, eqb, length, subst, rules}
use Rattle.std.proofs.lemmas.Fn.{always_returns_same}
use Rattle.script.specs.Texts.{StartsWith}
use Rattle.script.proofs.Lining.{starts_first}
use Rattle.script.proofs.lines.first_line.Goals as goal

pub returns : goal.returns
returns c =
    let s = c.in_ok-line.ensures.steps in
    let k = s.1.2 (λ b. eqb b 10) (always_returns_same _ _ _ (λ a r f q. search rules)) in
    let n = length c.in_ok-line.line.now in
    let t = subst (λ (xs : List ℕ). StartsWith xs (take n xs) (drop n xs)) c.split_inclusive.ensures.rest (starts_first _ s.1.0 n s.2 s.1.1 k.1) in
    search rules
