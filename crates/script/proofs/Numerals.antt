-- Numerals without needless zeros, and masks of ones and zeros. Assumes nothing.
use Rattle.std.proofs.Common.{◌≡◌, ℕ, zero, suc, ◌+◌, ◌-◌, ◌*◌, ◌/◌, ◌%◌, ◌^◌, ◌<◌, ◌≤◌, Bool, true, false, cond, eqb, Ok, Err, Result, Option, List, [], ◌∷◌, length, get_or, drop, reverse, decimal, sym, ap, ◌∙◌, subst, ⊎_elim, pow-suc, add-one, arith, rules, refl, MatchOption}
use Rattle.std.specs.List.{AllByRecursion}
use Rattle.std.specs.Bool.{then_some}
use Rattle.std.specs.Result.{OkIff, result_ok}
use Rattle.std.specs.Str.Parse.{AllDigits, digits_value}
use Rattle.std.specs.Char.{digit_value as digitValue}
use Rattle.std.proofs.lemmas.Int.Digits.{digits_value-lt}
use Rattle.std.proofs.lemmas.Str.Parse.{IsNumeralModel, numerals_by_value, tells_digits}
use Rattle.std.proofs.lemmas.Fmt.{decimal-digits_value, decimal_is_IsNumeral, decimal_digit, first_decimal, length-decimal-le, decimal_injective}
use Rattle.std.proofs.lemmas.Bool.{cases_eq}
use Rattle.std.proofs.lemmas.List.{drop_more, get_or-reverse, length-reverse}
use Rattle.std.proofs.lemmas.List.Elements.{All-from_recursion}
use Rattle.std.proofs.lemmas.Bool.Decides.{nat_tests}
use Rattle.script.specs.Format.{Good, Fit, number, count, mask, shown, marks}
use Rattle.script.specs.declared.fields.Count.{Count}

own : IsNumeralModel (AllDigits 10) (digits_value 10)
own = numerals_by_value (AllDigits 10) tells_digits

pub short_value : (f : List ℕ) → AllDigits 10 f → length f ≤ 5 → digits_value 10 f < 100000
short_value f d h = search (rules, digits_value-lt)

pub numeral_of : (f : List ℕ) → AllDigits 10 f → 0 < length f → length f ≤ 5 → (get_or f 0 0 ≡ 48 → length f ≡ 1) → f ≡ decimal (digits_value 10 f)
numeral_of f d some short canon = sym (decimal-digits_value own f d some canon (omega (arith, short_value f d short)))

-- f is how n is written
pub record Numeric (f : List ℕ) (n : ℕ) : Type 0 where
  pub digits : AllDigits 10 f
  pub some : 0 < length f
  pub short : length f ≤ 5
  pub is : digits_value 10 f ≡ n
  pub canon : get_or f 0 0 ≡ 48 → length f ≡ 1

canonical : (n : ℕ) → n ≤ 65535 → get_or (decimal n) 0 0 ≡ 48 → length (decimal n) ≡ 1
canonical n h e = ⊎_elim (λ z. ap length (decimal_digit n (omega arith))) (λ z. absurd (omega (arith, first_decimal n (omega arith) (omega arith)))) (cases_eq n 0)

numeric : (n : ℕ) → n ≤ 65535 → Numeric (decimal n) n
numeric n h =
    let r = decimal_is_IsNumeral n (omega arith) in
    record { digits = r.0.1; some = r.0.0; short = length-decimal-le 5 n (omega arith) (omega arith) (omega arith); is = r.1; canon = canonical n h }

pub numeric_of : (f : List ℕ) (g : Good number f) → Numeric f g.0
numeric_of f g = subst (λ (b : List ℕ). Numeric b g.0) (sym g.2) (numeric g.0 g.1)

-- what fits a u16 is the number, and what doesn't is none
pub number_if : (E : Type 0) (f : List ℕ) (n : ℕ) (r : Result ℕ E) (o : Option ℕ) → o ≡ result_ok r → OkIff r (n < 65536) n → f ≡ decimal n → ((g : Good number f) → g.0 ≡ n) → MatchOption o (Good number f → ⊥) (λ v. Fit number v × (f ≡ shown number v))
number_if E f n (Ok x) o e h w same = rw (e, h.1) (omega (arith, h.0), w)
number_if E f n (Err x) o e h w same = rw e (λ g. h (omega (arith, same g, g.1)))

pub digit_value : (c : ℕ) → 48 ≤ c → c ≤ 57 → digitValue c ≡ c - 48
digit_value c h k = grind (arith, nat_tests)

-- masks

abbrev pub Bit : ℕ → Type 0
Bit b = (48 ≤ b) × (b ≤ 49)

bit_of : (m : Bool) → Bit (cond m 49 48)
bit_of true = (omega arith, omega arith)
bit_of false = (omega arith, omega arith)

bits_of : (ms : List Bool) → AllByRecursion Bit (shown mask ms)
bits_of [] = tt
bits_of (m ∷ ms) = (bit_of m, bits_of ms)

-- each byte of a mask, from the last one on
pub masked_at : (f : List ℕ) → Good mask f → (n b : ℕ) → n < length (reverse f) → b ≡ get_or (reverse f) n b → Bit b
masked_at f g n b h e =
    let k : n < length f = omega (arith, length-reverse f) in
    let a = All-from_recursion Bit f (subst (AllByRecursion Bit) (sym g.2) (bits_of g.0)) (length f - 1 - n) b (omega arith) in
    subst Bit (sym (e ∙ get_or-reverse f n b k)) a

pub length_marks : (n set : ℕ) → length (marks n set) ≡ n
length_marks zero set = refl
length_marks (suc n) set = ap suc (length_marks n (set / 2))

pub marked : (d : ℕ) → d < 2 → 48 + d ≡ cond (eqb d 1) 49 48
marked d h = grind (arith, nat_tests)

-- one more mark in front
pub marks_more : (n set d : ℕ) → d < 2 → (48 + d) ∷ shown mask (marks n set) ≡ shown mask (marks (n + 1) (set * 2 + d))
marks_more n set d h =
    let q : (set * 2 + d) / 2 ≡ set = omega arith in
    let r : (set * 2 + d) % 2 ≡ d = omega arith in
    rw (add-one, q, r, marked d h)

pub set_more : (n set d : ℕ) → d < 2 → set < 2 ^ n → set * 2 + d < 2 ^ (n + 1)
set_more n set d h l = rw (add-one, pow-suc) (omega arith)

-- The last n bytes are the marks of this set, rig 0 the first of them.
abbrev pub Tail : List ℕ → ℕ → ℕ → Type 0
Tail f n set = (set < 2 ^ n) × (drop (length f - n) f ≡ shown mask (marks n set))

pub tail_more : (f : List ℕ) (n m set b d : ℕ) → n < length (reverse f) → b ≡ get_or (reverse f) n b → m ≡ n + 1 → b ≡ 48 + d → d < 2 → Tail f n set → Tail f m (set * 2 + d)
tail_more f n m set b d h e k x l t =
    let lt : n < length f = omega (arith, length-reverse f) in
    let r : get_or f (length f - 1 - n) b ≡ 48 + d = sym (e ∙ get_or-reverse f n b lt) ∙ x in
    let s : (length f - 1 - n) + 1 ≡ length f - n = omega arith in
    let i : length f - 1 - n ≡ length f - (n + 1) = omega arith in
    rw k (
      set_more n set d l t.0,
      ap (λ (j : ℕ). drop j f) (sym i)
          ∙ drop_more f (length f - 1 - n) b (omega arith)
          ∙ ap (λ (x : ℕ). x ∷ drop ((length f - 1 - n) + 1) f) r
          ∙ ap (λ (j : ℕ). (48 + d) ∷ drop j f) s
          ∙ ap (λ (xs : List ℕ). (48 + d) ∷ xs) t.1
          ∙ marks_more n set d l,
    )

-- a count that is written like a number is that number
pub counted : (n : ℕ) (f : List ℕ) → n ≤ 65535 → f ≡ decimal n → Good count f → (1 ≤ n) × (n ≤ 4096)
counted n f h e g =
    let s : n ≡ g.0 = decimal_injective n g.0 (omega arith) (omega (arith, g.1)) (sym e ∙ g.2) in
    (omega (arith, g.1), omega (arith, g.1))

pub count_if : (n : ℕ) (f : List ℕ) → n ≤ 65535 → f ≡ decimal n → (fits : Bool) → (fits ≡ true → (1 ≤ n) × (n ≤ 4096)) → (fits ≡ false → (1 ≤ n) × (n ≤ 4096) → ⊥) →
    MatchOption (then_some fits (record { 0 = n })) (Good count f → ⊥) (λ (v : Count). Fit count v.0 × (f ≡ shown count v.0))
count_if n f h e true low high = (low refl, e)
count_if n f h e false low high = λ g. high refl (counted n f h e g)
