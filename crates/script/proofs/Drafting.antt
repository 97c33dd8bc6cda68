-- Bytes that join a draft, one after another. Assumes nothing.
use Rattle.std.proofs.Common.{◌≡◌, ℕ, suc, ◌+◌, ◌-◌, ◌/◌, ◌%◌, ◌<◌, ◌≤◌, true, List, [], ◌∷◌, ◌++◌, map, length, get_or, take, drop, is_err, decimal, Result, sym, ap, ◌∙◌, subst, ◌⊎◌, inl, inr, arith}
use Rattle.std.proofs.lemmas.Fmt.{decimal_digit, decimal_step}
use Rattle.std.proofs.lemmas.List.{append_assoc, append-nil, length-append, map-append, take_more, take-append-drop}
use Rattle.std.proofs.lemmas.Result.{MatchResult-from_err, MatchResult-weaker}
use Rattle.bounded.specs.Entries.{entries, spare}
use Rattle.bounded.specs.declared.Bounded.{Bounded}
use Rattle.bounded.specs.declared.Full.{Full}
use Rattle.script.specs.Drafts.{Extends, Wrote}
use Rattle.script.specs.Format.{mask, shown, marks, meaning, fields, commas}
use Rattle.script.specs.declared.command.Command.{Command}
use Rattle.script.specs.declared.command.Command.TheVariants as command
use Rattle.script.proofs.Cuts.{commas_append}
use Rattle.script.proofs.Numerals.{marked}

pub extends_none : (d : Bounded ℕ) → Extends d [] d
extends_none d = record { held = sym (append-nil (entries d)); used = omega arith }

module _ (a b c : Bounded ℕ) (xs ys zs : List ℕ) (is : zs ≡ xs ++ ys) (so : Extends a xs b) where
  sum : length zs ≡ length xs + length ys
  sum = ap length is ∙ length-append xs ys

  pub extends_then : Extends b ys c → Extends a zs c
  extends_then e =
      record {
        held = e.held ∙ ap (λ (ws : List ℕ). ws ++ ys) so.held ∙ append_assoc (entries a) xs ys ∙ ap (λ (ws : List ℕ). entries a ++ ws) (sym is);
        used = omega (arith, sum, so.used, e.used);
      }

  pub overflows_then : length (spare b) < length ys → length (spare a) < length zs
  overflows_then h = omega (arith, sum, so.used)

  -- the rest was written, or did not fit
  pub wrote_then : (r : Result (Unit {0}) Full) → Wrote b ys c r → Wrote a zs c r
  wrote_then r w = MatchResult-weaker r w (λ _ e. extends_then e) (λ _ h. overflows_then h)

-- the first part did not fit, so the whole does not
pub overflows_front : (a : Bounded ℕ) (xs ys zs : List ℕ) → zs ≡ xs ++ ys → length (spare a) < length xs → length (spare a) < length zs
overflows_front a xs ys zs is h = omega (arith, ap length is ∙ length-append xs ys)

pub wrote_none : (a c : Bounded ℕ) (zs : List ℕ) (r : Result (Unit {0}) Full) → is_err r ≡ true → length (spare a) < length zs → Wrote a zs c r
wrote_none a c zs r e h = MatchResult-from_err r _ _ e (λ _. h)

pub wrote_as : (a c : Bounded ℕ) (xs zs : List ℕ) (r : Result (Unit {0}) Full) → zs ≡ xs → Wrote a xs c r → Wrote a zs c r
wrote_as a c xs zs r e w = subst (λ (ys : List ℕ). Wrote a ys c r) (sym e) w

-- numbers and masks

pub decimal_last : (n : ℕ) → 10 ≤ n → n < 65536 → decimal n ≡ decimal (n / 10) ++ (48 + n % 10) ∷ []
decimal_last n h l = decimal_step n h (omega arith)

pub decimal_only : (n : ℕ) → n < 10 → decimal n ≡ (48 + n % 10) ∷ []
decimal_only n h = let e : n ≡ n % 10 = omega arith in decimal_digit n h ∙ ap (λ (k : ℕ). (48 + k) ∷ []) e

pub marks_next : (k set : ℕ) → 0 < k → shown mask (marks k set) ≡ (48 + set % 2) ∷ shown mask (marks (k - 1) (set / 2))
marks_next k set h =
    let e : k ≡ suc (k - 1) = omega arith in
    ap (λ (j : ℕ). shown mask (marks j set)) e ∙ ap (λ (b : ℕ). b ∷ shown mask (marks (k - 1) (set / 2))) (sym (marked (set % 2) (omega arith)))

-- the numbers as they are written, each after its comma
abbrev pub listed : List ℕ → List ℕ
listed ns = commas (map decimal ns)

listed_append : (ms ns : List ℕ) → listed (ms ++ ns) ≡ listed ms ++ listed ns
listed_append ms ns = ap commas (map-append decimal ms ns) ∙ commas_append (map decimal ms) (map decimal ns)

pub listed_more : (ns : List ℕ) (i : ℕ) → i < length ns → listed (take (i + 1) ns) ≡ listed (take i ns) ++ 44 ∷ decimal (get_or ns i 0)
listed_more ns i h =
    ap listed (take_more ns i 0 h) ∙ listed_append (take i ns) (get_or ns i 0 ∷ [])
    ∙ ap (λ (xs : List ℕ). listed (take i ns) ++ 44 ∷ xs) (append-nil (decimal (get_or ns i 0)))

pub listed_rest : (ns : List ℕ) (i : ℕ) → listed ns ≡ listed (take i ns) ++ listed (drop i ns)
listed_rest ns i = ap listed (sym (take-append-drop i ns)) ∙ listed_append (take i ns) (drop i ns)

-- the commands whose fields are numbers alone

pub listed_two : (x : Command) (m n : ℕ) → (x ≡ command.Add m n) ⊎ (x ≡ command.Withdraw m n) → commas (fields (meaning x)) ≡ listed (m ∷ n ∷ [])
listed_two x m n (inl e) = ap (λ (y : Command). commas (fields (meaning y))) e
listed_two x m n (inr e) = ap (λ (y : Command). commas (fields (meaning y))) e

pub listed_rig : (x : Command) (r : ℕ) → (x ≡ command.Take r) ⊎ ((x ≡ command.Shut r) ⊎ (x ≡ command.Open r)) → commas (fields (meaning x)) ≡ listed (r ∷ [])
listed_rig x r (inl e) = ap (λ (y : Command). commas (fields (meaning y))) e
listed_rig x r (inr (inl e)) = ap (λ (y : Command). commas (fields (meaning y))) e
listed_rig x r (inr (inr e)) = ap (λ (y : Command). commas (fields (meaning y))) e
