-- What the operations on words make of sets.
use Rattle.std.proofs.Common.{◌≡◌, ℕ, ◌-◌, ◌*◌, ◌/◌, ◌%◌, ◌^◌, ◌<◌, ◌≤◌, Bool, true, false, eqb, ◌≢◌, Decides, sym, ap, ◌∙◌, arith, eq-eqb, eqb-true}
use lib.Bits.{bit_and, bit_or, and_le_l}
use Rattle.std.proofs.lemmas.Nat.{one_shl, pow_below}
use Rattle.std.proofs.lemmas.Nat.Bits.{shr_and_one}
use Rattle.std.proofs.lemmas.Bool.Decides.{nat_tests, same_from_decides, not_from_Decides}
use Rattle.levelling.specs.Sums.{Alike, Inside, inside}
use Rattle.levelling.specs.Levels.{no_rig}
use Rattle.levelling.proofs.Sums.{inside_decides}
use Rattle.rigset.specs.Sets.{limit, has, RigsAre, rig_numbered, first_rigs, either, without}
use Rattle.rigset.proofs.Digits.{has_all, has_none, has_past, has_and, has_or, has_not, has_ones, has_pow}
use Rattle.rigset.proofs.Counts.{limit_is}

-- words that agree on every rig are one number
pub same_word : (m n : ℕ) → m < 2 ^ 64 → n < 2 ^ 64 → Alike limit (has m) (has n) → m ≡ n
same_word m n hm hn h = has_all 64 m n hm hn (λ r l. h r (omega (arith, limit_is)))

pub empty_decides : (m : ℕ) → m < 2 ^ 64 → Decides (eqb m 0) (RigsAre m no_rig)
empty_decides m h = (
  λ e r. ap (λ (x : ℕ). has x r) (eqb-true m 0 e) ∙ has_none r,
  λ none. eq-eqb m 0 (has_all 64 m 0 h (omega arith) (λ r l. none r ∙ sym (has_none r))),
)

pub some_rig : (m : ℕ) (empty : Bool) → Decides empty (RigsAre m no_rig) → empty ≡ false → 0 < m
some_rig m empty d e = let n : m ≢ 0 = λ z. not_from_Decides empty d e (λ r. rw z (has_none r)) in omega arith

-- taking out a rig that is not there changes nothing
pub remove_none : (m n : ℕ) → has m n ≡ false → RigsAre m (without (has m) n)
remove_none m n h r = grind (arith, nat_tests)

-- the rigs below a number
pub is_first : (n r : ℕ) → r < n → r < 64 → first_rigs n r ≡ true
is_first n r below small = grind (arith, nat_tests)

pub first_is : (n r : ℕ) → first_rigs n r ≡ true → r < n
first_is n r e = grind (arith, nat_tests)

pub below_few : (n : ℕ) → n < 64 → RigsAre ((1 * 2 ^ n) % 2 ^ 64 - 1) (first_rigs n)
below_few n h r = ap (λ (x : ℕ). has (x - 1) r) (one_shl n 64 h) ∙ has_ones n r ∙ grind (arith, nat_tests)

pub below_all : (n : ℕ) → 64 ≤ n → RigsAre (2 ^ 64 - 1) (first_rigs n)
below_all n h r = has_ones 64 r ∙ grind (arith, nat_tests)

-- the test of one digit
pub digit_has : (m r : ℕ) → eqb (bit_and (m / 2 ^ r) 1) 1 ≡ has m r
unfolding has
digit_has m r = ap (λ (x : ℕ). eqb x 1) (shr_and_one m r)

pub insert_new : (m n : ℕ) → n < 64 → RigsAre (bit_or m ((1 * 2 ^ n) % 2 ^ 64)) (either (has m) (rig_numbered n))
insert_new m n h r =
    ap (λ (x : ℕ). has (bit_or m x) r) (one_shl n 64 h) ∙ has_or m (2 ^ n) r ∙ grind (arith, nat_tests, has_pow n r)

-- a number of 64 or more names no rig
pub insert_past : (m n : ℕ) → 64 ≤ n → RigsAre m (either (has m) (rig_numbered n))
insert_past m n h r = grind (arith, nat_tests)

-- a rig that is there already
pub insert_old : (m n : ℕ) → has m n ≡ true → RigsAre m (either (has m) (rig_numbered n))
insert_old m n h r = grind (arith, nat_tests)

pub remove_old : (m n : ℕ) → m < 2 ^ 64 → n < 64 → RigsAre (bit_and m (2 ^ 64 - 1 - (1 * 2 ^ n) % 2 ^ 64)) (without (has m) n)
remove_old m n small h r =
    ap (λ (x : ℕ). has (bit_and m (2 ^ 64 - 1 - x)) r) (one_shl n 64 h) ∙ has_and m (2 ^ 64 - 1 - 2 ^ n) r
    ∙ grind (arith, nat_tests, has_not 64 (2 ^ n) r (pow_below n 64 h), has_pow n r, has_past 64 m r small)

subset_all : (a b : ℕ) → a < 2 ^ 64 → Decides (eqb (bit_and a b) a) (Inside limit (has a) (has b))
subset_all a b h = (
  λ e r l t. grind (arith, nat_tests, has_and a b r),
  λ s. eq-eqb (bit_and a b) a (has_all 64 (bit_and a b) a (omega (arith, and_le_l a b)) h (λ r l.
      grind (arith, nat_tests, has_and a b r, s r (omega (arith, limit_is))))),
)

pub subset_inside : (a b : ℕ) → a < 2 ^ 64 → eqb (bit_and a b) a ≡ inside limit (has a) (has b)
subset_inside a b h = same_from_decides _ _ (subset_all a b h) (inside_decides limit (has a) (has b))
