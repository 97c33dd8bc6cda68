-- Laws of sums below n, and of groups as tests.
use Rattle.std.proofs.Common.{◌≡◌, ℕ, zero, suc, ◌+◌, ◌-◌, ◌*◌, ◌<◌, ◌≤◌, Bool, true, false, cond, not, ◌||◌, eqb, ltb, ◌≢◌, ◌⊎◌, Decides, sym, refl, ap, ◌∙◌, inl, inr, arith}
use Rattle.std.proofs.lemmas.Bool.{cases_eq, cases_Bool, false≢true, cond-true, cond-false, lt-ltb, le-ltb}
use Rattle.std.proofs.lemmas.Bool.Decides.{Decides-below_and, Decides-below_or, not_from_Decides}
use Rattle.levelling.specs.Sums.{Group, Inside, inside, Alike, sum_to, sum_over, size, unit, OneMore, OneMoved}

pub cases_last : (i n : ℕ) → i < suc n → (i ≡ n) ⊎ (i < n)
cases_last i n l = elim (cases_eq i n) [ inl e ↦ inl e | inr d ↦ inr (omega arith) ]

pub not_below_zero : {A : Type 0} (i : ℕ) → i < 0 → A
not_below_zero i l = let none : ⊥ = omega arith in absurd none

-- ---- sums
pub sum_le : (n : ℕ) (f g : ℕ → ℕ) → ((i : ℕ) → i < n → f i ≤ g i) → sum_to n f ≤ sum_to n g
sum_le zero f g h = omega arith
sum_le (suc n) f g h = omega (arith, sum_le n f g (λ i l. h i (omega arith)), h n (omega arith))

pub sum_same : (n : ℕ) (f g : ℕ → ℕ) → Alike n f g → sum_to n f ≡ sum_to n g
sum_same zero f g h = refl
sum_same (suc n) f g h = omega (arith, sum_same n f g (λ i l. h i (omega arith)), h n (omega arith))

pub sum_add : (n : ℕ) (f g : ℕ → ℕ) → sum_to n (λ i. f i + g i) ≡ sum_to n f + sum_to n g
sum_add zero f g = refl
sum_add (suc n) f g = omega (arith, sum_add n f g)

pub sum_zero : (n : ℕ) (f : ℕ → ℕ) → ((i : ℕ) → i < n → f i ≡ 0) → sum_to n f ≡ 0
sum_zero zero f h = refl
sum_zero (suc n) f h = omega (arith, sum_zero n f (λ i l. h i (omega arith)), h n (omega arith))

pub sum_swap : (m n : ℕ) (f : ℕ → ℕ → ℕ) → sum_to m (λ i. sum_to n (f i)) ≡ sum_to n (λ j. sum_to m (λ i. f i j))
sum_swap zero n f = sym (sum_zero n (λ j. 0) (λ i l. refl))
sum_swap (suc m) n f = omega (arith, sum_swap m n f, sum_add n (λ j. sum_to m (λ i. f i j)) (f m))

-- a term is at most the sum
pub sum_term : (n : ℕ) (f : ℕ → ℕ) (i : ℕ) → i < n → f i ≤ sum_to n f
sum_term zero f i l = omega arith
sum_term (suc n) f i l =
    elim (cases_last i n l) [ inl e ↦ omega (arith, ap f e) | inr b ↦ omega (arith, sum_term n f i b) ]

-- sums that are equal, though no term of the one is greater, have equal terms
pub sum_even : (n : ℕ) (f g : ℕ → ℕ) → ((i : ℕ) → i < n → f i ≤ g i) → sum_to n f ≡ sum_to n g → Alike n f g
sum_even zero f g h e i l = not_below_zero i l
sum_even (suc n) f g h e i l =
    let le = sum_le n f g (λ j b. h j (omega arith)) in
    let last = h n (omega arith) in
    elim (cases_last i n l) [
      | inl q ↦ let here : f n ≡ g n = omega arith in rw q here
      | inr b ↦ sum_even n f g (λ j b. h j (omega arith)) (omega arith) i b
    ]

pub sum_less : (n : ℕ) (f g : ℕ → ℕ) → ((i : ℕ) → i < n → f i ≤ g i) → (j : ℕ) → j < n → f j < g j → sum_to n f < sum_to n g
sum_less n f g h j l s =
    let apart : sum_to n f ≢ sum_to n g = λ e. omega (arith, sum_even n f g h e j l) in
    omega (arith, sum_le n f g h)

-- a sum that is not 0 has a term that is not
pub sum_some : (n : ℕ) (f : ℕ → ℕ) → sum_to n f ≢ 0 → (i : ℕ) × (i < n) × (f i ≢ 0)
sum_some zero f d = absurd (d refl)
sum_some (suc n) f d =
    elim (cases_eq (f n) 0) [
      | inr s ↦ (n, omega arith, s)
      | inl z ↦ let w = sum_some n f (λ e. d (omega arith)) in (w.0, omega arith, w.2)
    ]

-- a sum with the one term m
pub sum_spot : (n j m : ℕ) → j < n → sum_to n (λ i. cond (eqb i j) m 0) ≡ m
sum_spot zero j m l = not_below_zero j l
sum_spot (suc n) j m l =
    elim (cases_last j n l) [
      | inl e ↦ let rest = sum_zero n (λ i. cond (eqb i j) m 0) (λ i b. grind arith) in grind arith
      | inr b ↦ let rest = sum_spot n j m b in grind arith
    ]

-- a sum with more terms, all 0
pub sum_longer : (n m : ℕ) (f g : ℕ → ℕ) → n ≤ m → Alike n f g → ((i : ℕ) → n ≤ i → i < m → g i ≡ 0) → sum_to n f ≡ sum_to m g
sum_longer n zero f g le same none =
    let e : n ≡ 0 = omega arith in
    sum_zero n f (λ i l. let bad : ⊥ = omega arith in absurd bad)
sum_longer n (suc m) f g le same none =
    elim (cases_eq n (suc m)) [
      | inl e ↦ rw e (sum_same (suc m) f g (λ i l. same i (omega arith)))
      | inr d ↦ omega (arith, sum_longer n m f g (omega arith) same (λ i a b. none i a (omega arith)), none m (omega arith) (omega arith))
    ]

-- the first n terms
pub sum_front : (m n : ℕ) (f : ℕ → ℕ) → n ≤ m → sum_to m (λ i. cond (ltb i n) (f i) 0) ≡ sum_to n f
sum_front m n f l =
    sym (sum_longer n m f (λ i. cond (ltb i n) (f i) 0) l
    (λ i b. sym (cond-true _ (f i) 0 (lt-ltb i n b))) (λ i a b. cond-false _ (f i) 0 (le-ltb i n a)))

pub sum_scale : (n m : ℕ) (f : ℕ → ℕ) → sum_to n (λ i. m * f i) ≡ m * sum_to n f
sum_scale zero m f = omega arith
sum_scale (suc n) m f = omega (arith, sum_scale n m f)

-- what is above k is what is above k + 1, and one more where n is higher than k
pub above_next : (n k : ℕ) → n - k ≡ (n - (k + 1)) + cond (ltb k n) 1 0
above_next n k = grind arith

-- ---- sums over a group
over_at : (b : Bool) (u v : ℕ) → cond b (u + v) 0 ≡ cond b u 0 + cond b v 0
over_at b u v = grind arith

pub over_add : (n : ℕ) (G : Group) (f g : ℕ → ℕ) → sum_over n G (λ i. f i + g i) ≡ sum_over n G f + sum_over n G g
over_add n G f g =
    sum_same n _ _ (λ i l. over_at (G i) (f i) (g i)) ∙ sum_add n (λ i. cond (G i) (f i) 0) (λ i. cond (G i) (g i) 0)

pub over_same : (n : ℕ) (F G : Group) (f g : ℕ → ℕ) → Alike n F G → Alike n f g → sum_over n F f ≡ sum_over n G g
over_same n F G f g same alike =
    sum_same n _ _ (λ i l. ap (λ b. cond b (f i) 0) (same i l) ∙ ap (λ m. cond (G i) m 0) (alike i l))

pub over_le : (n : ℕ) (G : Group) (f g : ℕ → ℕ) → ((i : ℕ) → i < n → G i ≡ true → f i ≤ g i) → sum_over n G f ≤ sum_over n G g
over_le n G f g h = sum_le n _ _ (λ i l. at (G i) (f i) (g i) (h i l))
  where
    at : (b : Bool) (u v : ℕ) → (b ≡ true → u ≤ v) → cond b u 0 ≤ cond b v 0
    at b u v h = grind arith

pub over_constant : (n : ℕ) (G : Group) (k : ℕ) → sum_over n G (λ i. k) ≡ k * size n G
over_constant zero G k = omega arith
over_constant (suc n) G k = let ih = over_constant n G k in grind arith

pub over_unit : (n : ℕ) (G : Group) (j : ℕ) → j < n → sum_over n G (unit j) ≡ cond (G j) 1 0
over_unit n G j l =
    elim (cases_Bool (G j)) [
      | inl t ↦ sum_same n _ (unit j) (λ i b. grind arith) ∙ sum_spot n j 1 l ∙ grind arith
      | inr f ↦ sum_zero n _ (λ i b. grind arith) ∙ grind arith
    ]

pub over_more : (n : ℕ) (G : Group) (j : ℕ) (f g : ℕ → ℕ) → j < n → OneMore n j f g →
    sum_over n G g ≡ sum_over n G f + cond (G j) 1 0
over_more n G j f g l more =
    over_same n G G g (λ i. f i + unit j i) (λ i b. refl) more ∙ over_add n G f (unit j) ∙
    ap (λ m. sum_over n G f + m) (over_unit n G j l)

pub over_moved : (n : ℕ) (G : Group) (d j : ℕ) (f g : ℕ → ℕ) → d < n → j < n → OneMoved n d j f g →
    sum_over n G g + cond (G d) 1 0 ≡ sum_over n G f + cond (G j) 1 0
over_moved n G d j f g ld lj moved =
    omega (
      arith,
      over_same n G G (λ i. g i + unit d i) (λ i. f i + unit j i) (λ i b. refl) moved,
      over_add n G g (unit d),
      over_add n G f (unit j),
      over_unit n G d ld,
      over_unit n G j lj,
    )

-- ---- one more, and one moved, at each number
pub more_cases : (n j : ℕ) (f g : ℕ → ℕ) → OneMore n j f g → (i : ℕ) → i < n →
    ((i ≡ j) × (g i ≡ f i + 1)) ⊎ ((i ≢ j) × (g i ≡ f i))
more_cases n j f g more i l =
    let e = more i l in
    elim (cases_eq i j) [ inl q ↦ inl (q, grind arith) | inr d ↦ inr (d, grind arith) ]

pub moved_cases : (n d j : ℕ) (f g : ℕ → ℕ) → OneMoved n d j f g → d ≢ j → (i : ℕ) → i < n →
    ((i ≡ d) × (g i + 1 ≡ f i)) ⊎ (((i ≡ j) × (g i ≡ f i + 1)) ⊎ ((i ≢ d) × (i ≢ j) × (g i ≡ f i)))
moved_cases n d j f g moved apart i l =
    let e = moved i l in
    elim (cases_eq i d) [
      | inl q ↦ inl (q, grind arith)
      | inr s ↦ elim (cases_eq i j) [ inl q ↦ inr (inl (q, grind arith)) | inr s' ↦ inr (inr (s, s', grind arith)) ]
    ]

-- ---- groups
pub is_false : (b : Bool) → (b ≡ true → ⊥) → b ≡ false
is_false true h = absurd (h refl)
is_false false h = refl

-- the test inside tells Inside
pub inside_decides : (n : ℕ) (S G : Group) → Decides (inside n S G) (Inside n S G)
inside_decides n S G =
    Decides-below_and (λ i. not (S i) || G i) (λ i. S i ≡ true → G i ≡ true) (λ m. inside m S G)
    (λ i. implies (S i) (G i)) refl (λ m. refl) n
  where
    implies : (a b : Bool) → Decides (not a || b) (a ≡ true → b ≡ true)
    implies true b = (λ t h. t, λ h. h refl)
    implies false b = (λ t h. absurd (false≢true h), λ h. refl)

pub inside_not : (n : ℕ) (S G : Group) → inside n S G ≡ false → Inside n S G → ⊥
inside_not n S G = not_from_Decides (inside n S G) (inside_decides n S G)

-- some number below n is in S
abbrev pub any_to : ℕ → Group → Bool
any_to zero S = false
any_to (suc n) S = S n || any_to n S

pub any_decides : (n : ℕ) (S : Group) → Decides (any_to n S) ((i : ℕ) × (i < n) × (S i ≡ true))
any_decides n S = Decides-below_or S (λ i. S i ≡ true) (λ m. any_to m S) (λ i. (λ t. t, λ t. t)) refl (λ m. refl) n

-- S and the number j
abbrev pub with_one : Group → ℕ → Group
with_one S j i = S i || eqb j i

pub size_with_one : (n : ℕ) (S : Group) (j : ℕ) → j < n → S j ≡ false → size n (with_one S j) ≡ size n S + 1
size_with_one n S j l out =
    sum_same n _ _ (λ i b. at i) ∙ sum_add n (λ i. cond (S i) 1 0) (unit j) ∙ ap (λ m. size n S + m) (sum_spot n j 1 l)
  where
    at : (i : ℕ) → cond (with_one S j i) 1 0 ≡ cond (S i) 1 0 + unit j i
    at i = elim (cases_eq i j) [ inl e ↦ let o : S i ≡ false = rw e out in grind arith | inr d ↦ grind arith ]

pub size_at_most : (n : ℕ) (S : Group) → size n S ≤ n
size_at_most zero S = omega arith
size_at_most (suc n) S = let ih = size_at_most n S in grind arith
