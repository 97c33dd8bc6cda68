-- Tables of rig numbers: which rigs stand in them, and how often.
use Rattle.std.proofs.Common.{◌≡◌, ℕ, zero, suc, ◌+◌, ◌<◌, ◌≤◌, Bool, true, cond, ◌||◌, eqb, ◌⊎◌, List, length, get_or, Decides, sym, refl, ap, ◌∙◌, inl, inr, arith}
use Rattle.std.proofs.lemmas.Bool.{cases_eq, cases_lt, both_ways, eq-eqb}
use Rattle.std.proofs.lemmas.Bool.Decides.{nat_tests, Decides-like}
use Rattle.levelling.specs.Sums.{inside, sum_to, size, only}
use Rattle.levelling.specs.Levels.{no_rig}
use Rattle.levelling.proofs.Sums.{inside_decides, sum_le, sum_same, sum_zero, sum_swap, sum_term, sum_even, sum_some, sum_spot}
use Rattle.rigset.specs.Sets.{limit, has, RigsAre, first_rigs, either, rig_numbered}
use Rattle.rigset.proofs.Counts.{limit_is}
use Rattle.rigset.proofs.Operations.{first_is, is_first}
use Rattle.layers.specs.Layers.{StandsIn, EachOnce}

-- ---- the set of the rigs that a table names

-- the set has the rigs of the first n entries
abbrev pub Names : ℕ → List ℕ → ℕ → Type 0
Names set order n = (r : ℕ) → r < 64 → Decides (has set r) (StandsIn order n r)

pub names_none : (set : ℕ) (order : List ℕ) → RigsAre set no_rig → Names set order 0
names_none set order none r small = (λ t. absurd (both_ways (has set r) (none r) t), λ s. absurd (omega (arith, s.1)))

pub names_more : (set more : ℕ) (order : List ℕ) (n : ℕ) → Names set order n →
    RigsAre more (either (has set) (rig_numbered (get_or order n 0))) → Names more order (n + 1)
names_more set more order n before joins r small = (
  λ t. elim (came (has set r) (sym (joins r) ∙ t)) [
    | inl old ↦ let s = (before r small).0 old in (s.0, omega (arith, s.1), s.2)
    | inr new ↦ (n, omega arith, sym new)
  ],
  λ s. joins r ∙ elim (cases_eq s.0 n) [
    | inl e ↦ new_in (has set r) (sym s.2 ∙ ap (λ (k : ℕ). get_or order k 0) e)
    | inr d ↦ old_in (has set r) ((before r small).1 (s.0, omega (arith, s.1), s.2))
  ],
)
  where
    came : (b : Bool) → (b || rig_numbered (get_or order n 0) r) ≡ true → (b ≡ true) ⊎ (r ≡ get_or order n 0)
    came b t = grind (arith, nat_tests)

    new_in : (b : Bool) → r ≡ get_or order n 0 → (b || rig_numbered (get_or order n 0) r) ≡ true
    new_in b e = grind (arith, nat_tests)

    old_in : (b : Bool) → b ≡ true → (b || rig_numbered (get_or order n 0) r) ≡ true
    old_in b t = grind (arith, nat_tests)

-- ---- how often a rig stands in a table

abbrev count : Bool → ℕ
count b = cond b 1 0

abbrev times : List ℕ → ℕ → ℕ
times order r = size (length order) (λ k. eqb (get_or order k 0) r)

times_some : (order : List ℕ) (r : ℕ) → StandsIn order (length order) r → 1 ≤ times order r
times_some order r (k, h, e) =
    let term = sum_term (length order) (λ j. count (eqb (get_or order j 0) r)) k h in
    let one = ap count (eq-eqb (get_or order k 0) r e) in
    omega arith

some_times : (order : List ℕ) (r : ℕ) → times order r ≡ 1 → StandsIn order (length order) r
some_times order r e =
    let s = sum_some (length order) (λ j. count (eqb (get_or order j 0) r)) (λ z. omega arith) in
    (s.0, s.1, found (get_or order s.0 0) s.2)
  where
    found : (x : ℕ) → (count (eqb x r) ≡ 0 → ⊥) → x ≡ r
    found x d = grind (arith, nat_tests)

ones : (n : ℕ) → sum_to n (λ k. 1) ≡ n
ones zero = refl
ones (suc n) = omega (arith, ones n)

-- an entry is one rig at most
one_rig : (rigs x : ℕ) → size rigs (only x) ≤ 1
one_rig rigs x = elim (cases_lt x rigs) [
  | inl l ↦ omega (arith, sum_same rigs _ _ (λ i b. same i) ∙ sum_spot rigs x 1 l)
  | inr p ↦ omega (arith, sum_zero rigs _ (λ i b. other i (omega arith)))
]
  where
    same : (i : ℕ) → count (eqb x i) ≡ count (eqb i x)
    same i = grind (arith, nat_tests)

    other : (i : ℕ) → i < x → count (eqb x i) ≡ 0
    other i l = grind (arith, nat_tests)

-- so the rigs stand in the table no more often than it has entries
times_all : (rigs : ℕ) (order : List ℕ) → sum_to rigs (times order) ≤ length order
times_all rigs order =
    let swap = sum_swap rigs (length order) (λ r k. count (eqb (get_or order k 0) r)) in
    let few = sum_le (length order) _ (λ k. 1) (λ k h. one_rig rigs (get_or order k 0)) in
    omega (arith, ones (length order))

-- a table with an entry for each rig, in which each rig stands, has each rig once
all_once : (rigs : ℕ) (order : List ℕ) → length order ≡ rigs → ((r : ℕ) → r < rigs → StandsIn order (length order) r) → EachOnce rigs order
all_once rigs order len all r h =
    let some : (i : ℕ) → i < rigs → 1 ≤ times order i = λ i l. times_some order i (all i l) in
    let least = sum_le rigs (λ i. 1) (times order) some in
    let even : sum_to rigs (λ i. 1) ≡ sum_to rigs (times order) = omega (arith, ones rigs, times_all rigs order) in
    sym (sum_even rigs (λ i. 1) (times order) some even r h)

pub each_once_decides : (rigs all names : ℕ) (order : List ℕ) → rigs ≤ 64 → length order ≡ rigs → RigsAre all (first_rigs rigs) →
    Names names order (length order) → Decides (inside limit (has all) (has names)) (EachOnce rigs order)
each_once_decides rigs all names order few len holds named =
    Decides-like (inside limit (has all) (has names))
    (λ s. all_once rigs order len (λ r h.
    (named r (omega arith)).0 (s r (omega (arith, limit_is)) (holds r ∙ is_first rigs r h (omega arith)))))
    (λ once r l t. (named r (omega (arith, limit_is))).1 (some_times order r (once r (first_is rigs r (sym (holds r) ∙ t)))))
    (inside_decides limit (has all) (has names))
