-- The bytes before the first of a kind. Assumes nothing.
use Rattle.std.proofs.Common.{◌≡◌, ℕ, ◌<◌, false, eqb, List, take, subst, sym, arith}
use Rattle.std.specs.List.{AllByRecursion, AllWithin}
use Rattle.std.proofs.lemmas.Bool.{eqb-false}
use Rattle.std.proofs.lemmas.List.{get_or-take, length-take}
use Rattle.std.proofs.lemmas.List.Elements.{recursion_from_All}

pub none_before : (b : ℕ) (xs : List ℕ) (i : ℕ) → AllWithin (λ x. eqb x b ≡ false) xs 0 i → AllByRecursion (λ x. x ≡ b → ⊥) (take i xs)
none_before b xs i h =
    recursion_from_All (λ x. x ≡ b → ⊥) (take i xs) (λ k d lt.
    let in' : k < i = omega (arith, length-take i xs) in
    eqb-false _ b (subst (λ (x : ℕ). eqb x b ≡ false) (sym (get_or-take i xs k d in')) (h k d (omega arith) in')))
