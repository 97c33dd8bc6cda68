-- How many rigs a set has, and what they count.
use Rattle.std.proofs.Common.{◌≡◌, ℕ, zero, suc, ◌+◌, ◌*◌, ◌%◌, ◌^◌, ◌<◌, Bool, true, cond, not, ◌&&◌, eqb, sym, refl, ap, ◌∙◌, mod-lt, mod-eq_of_lt, one-add, arith, pow_pos}
use native.Mathlib.Nat.{mod-one}
use Rattle.std.specs.Int.{bit_at}
use Rattle.std.specs.Int.Count.{ones}
use Rattle.std.proofs.lemmas.Nat.{ones_cat, mod-pow-add}
use Rattle.std.proofs.lemmas.Nat.Bits.{bit_at-lt}
use Rattle.std.proofs.lemmas.Bool.Decides.{nat_tests}
use Rattle.levelling.specs.Sums.{sum_over, size}
use Rattle.levelling.specs.Levels.{no_rig}
use Rattle.levelling.proofs.Sums.{sum_same, sum_zero, sum_add, sum_spot}
use Rattle.rigset.specs.Sets.{limit, has, without, RigsAre}

pub limit_is : limit ≡ 64
unfolding limit
limit_is = refl

-- the digit that counts 2 ^ k, in front of those that count less
split : (k m : ℕ) → m % 2 ^ suc k ≡ bit_at m k * 2 ^ k + m % 2 ^ k
split k m = rw (sym (one-add k)) (mod-pow-add m 1 k)

weighed : (d w : ℕ) → d < 2 → d * w ≡ cond (eqb d 1) w 0
weighed d w h = grind (arith, nat_tests)

sum_mod : (k m : ℕ) → m % 2 ^ k ≡ sum_over k (has m) (λ r. 2 ^ r)
unfolding has
sum_mod zero m = mod-one m
sum_mod (suc k) m = omega (arith, split k m, sum_mod k m, weighed (bit_at m k) (2 ^ k) (bit_at-lt m k))

-- a set is the sum of what its rigs count
pub sum_counted : (m : ℕ) → m < 2 ^ 64 → m ≡ sum_over limit (has m) (λ r. 2 ^ r)
unfolding limit
sum_counted m h = sym (mod-eq_of_lt h) ∙ sum_mod 64 m

ones_digit : (d : ℕ) → d < 2 → ones d ≡ cond (eqb d 1) 1 0
unfolding ones
ones_digit zero h = refl
ones_digit (suc zero) h = refl
ones_digit (suc (suc d)) h = absurd (omega arith)

ones_mod : (k m : ℕ) → ones (m % 2 ^ k) ≡ size k (has m)
unfolding ones has
ones_mod zero m = ap ones (mod-one m)
ones_mod (suc k) m =
    let c = ones_cat k (bit_at m k) (m % 2 ^ k) (mod-lt m (pow_pos k)) in
    ap ones (split k m) ∙ omega (arith, c, ones_mod k m, ones_digit (bit_at m k) (bit_at-lt m k))

-- the ones of a word are the rigs of the set
pub ones_size : (m : ℕ) → m < 2 ^ 64 → ones m ≡ size limit (has m)
unfolding limit
ones_size m h = ap ones (sym (mod-eq_of_lt h)) ∙ ones_mod 64 m

-- a sum over no rig
pub over_none : (m : ℕ) (f : ℕ → ℕ) → RigsAre m no_rig → sum_over limit (has m) f ≡ 0
over_none m f none = sum_zero limit _ (λ i l. ap (λ (b : Bool). cond b (f i) 0) (none i))

-- a sum over the rigs of a set, where one rig is taken out
pub over_without : (m n r : ℕ) (f : ℕ → ℕ) → r < 64 → has m r ≡ true → RigsAre n (without (has m) r) →
    sum_over limit (has n) f + f r ≡ sum_over limit (has m) f
over_without m n r f small h left =
    let split = sum_same limit (λ i. cond (has m i) (f i) 0) (λ i. cond (has n i) (f i) 0 + cond (eqb i r) (f r) 0) (λ i l. at i) in
    let add = sum_add limit (λ i. cond (has n i) (f i) 0) (λ i. cond (eqb i r) (f r) 0) in
    omega (arith, split, add, sum_spot limit r (f r) (omega (arith, limit_is)))
  where
    term : (b c : Bool) (i x y : ℕ) → (i ≡ r → x ≡ y) → (i ≡ r → b ≡ true) → c ≡ (b && not (eqb i r)) →
        cond b x 0 ≡ cond c x 0 + cond (eqb i r) y 0
    term b c i x y v t e = grind (arith, nat_tests)

    at : (i : ℕ) → cond (has m i) (f i) 0 ≡ cond (has n i) (f i) 0 + cond (eqb i r) (f r) 0
    at i = term (has m i) (has n i) i (f i) (f r) (ap f) (λ e. ap (has m) e ∙ h) (left i)

-- so one rig fewer is left
pub size_without : (m n r : ℕ) → r < 64 → has m r ≡ true → RigsAre n (without (has m) r) → size limit (has n) + 1 ≡ size limit (has m)
size_without m n r = over_without m n r (λ i. 1)
