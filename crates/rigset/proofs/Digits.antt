-- The rigs of a word, digit by digit.
use Rattle.std.proofs.Common.{◌≡◌, ℕ, zero, suc, ◌-◌, ◌/◌, ◌^◌, ◌<◌, ◌≤◌, true, false, not, ◌&&◌, ◌||◌, eqb, ltb, sym, ap, ◌∙◌, pow-suc, arith}
use Rattle.std.specs.Int.{bit_at, trailing_zeros, w64}
use lib.Bits.{bit_and, bit_or}
use Rattle.std.proofs.lemmas.Bool.Decides.{nat_tests}
use Rattle.std.proofs.lemmas.Nat.Bits.{bit_at-lt, bit_at-zero, bit_at_lowest, bit_at-suc, bit_at_and, bit_at_or, bit_at_ones, bit_at_ones_above, bit_at-pow_same, bit_at-pow_other, bit_at_above, bit_at-trailing_zeros, same_from_bits_below}
use Rattle.rigset.specs.Sets.{has, LowestOf}

-- a number is its digits
pub has_all : (k m n : ℕ) → m < 2 ^ k → n < 2 ^ k → ((r : ℕ) → r < k → has m r ≡ has n r) → m ≡ n
unfolding has
has_all k m n hm hn h =
    same_from_bits_below k m n hm hn (λ r l. grind (arith, nat_tests, bit_at-lt m r, bit_at-lt n r, h r l))

pub has_none : (r : ℕ) → has 0 r ≡ false
unfolding has
has_none r = ap (λ (x : ℕ). eqb x 1) (bit_at-zero r)

-- a number below 2 ^ k has no digit from k on
pub has_past : (k m r : ℕ) → m < 2 ^ k → k ≤ r → has m r ≡ false
unfolding has
has_past k m r h l = ap (λ (x : ℕ). eqb x 1) (bit_at_above m k r h l)

-- the rigs of a word of k digits are below k
pub has_within : (k m r : ℕ) → m < 2 ^ k → has m r ≡ true → r < k
has_within k m r h t = grind (arith, has_past k m r h)

-- ---- and, or, not, the powers of two

pub has_and : (a b r : ℕ) → has (bit_and a b) r ≡ (has a r && has b r)
unfolding has
has_and a b r = grind (arith, nat_tests, bit_at_and a b r, bit_at-lt a r, bit_at-lt b r)

pub has_or : (a b r : ℕ) → has (bit_or a b) r ≡ (has a r || has b r)
unfolding has
has_or a b r = grind (arith, nat_tests, bit_at_or a b r, bit_at-lt a r, bit_at-lt b r)

-- the digits of !m, where m has k digits (the library says it only for the widths of numbers)
pub has_not : (k m r : ℕ) → m < 2 ^ k → r < k → has (2 ^ k - 1 - m) r ≡ not (has m r)
unfolding has
has_not zero m r h l = absurd (omega arith)
has_not (suc k) m zero h l =
    grind (arith, nat_tests, bit_at_lowest (2 ^ suc k - 1 - m), bit_at_lowest m, pow-suc 2 k)
has_not (suc k) m (suc r) h l =
    let half : (2 ^ suc k - 1 - m) / 2 ≡ 2 ^ k - 1 - m / 2 = omega (arith, pow-suc 2 k) in
    ap (λ (x : ℕ). eqb x 1) (bit_at-suc (2 ^ suc k - 1 - m) r ∙ ap (λ (x : ℕ). bit_at x r) half)
    ∙ has_not k (m / 2) r (omega (arith, pow-suc 2 k)) (omega arith) ∙ ap (λ (x : ℕ). not (eqb x 1)) (sym (bit_at-suc m r))

-- the rigs below k
pub has_ones : (k r : ℕ) → has (2 ^ k - 1) r ≡ ltb r k
unfolding has
has_ones k r = grind (arith, nat_tests, bit_at_ones k r, bit_at_ones_above k r)

-- the rig k alone
pub has_pow : (k r : ℕ) → has (2 ^ k) r ≡ eqb r k
unfolding has
has_pow k r = grind (arith, nat_tests, bit_at-pow_same k, bit_at-pow_other k r)

-- ---- the lowest rig

-- the trailing zeros of a word are the number of its lowest rig
pub trailing_lowest : (m : ℕ) → 0 < m → m < 2 ^ 64 → LowestOf (has m) (trailing_zeros w64 m)
unfolding has
trailing_lowest m p h =
    let low = bit_at-trailing_zeros w64 m p h in
    record { within = low.0; member = ap (λ (x : ℕ). eqb x 1) low.1; least = λ j t. grind (arith, nat_tests, low.2 j) }
