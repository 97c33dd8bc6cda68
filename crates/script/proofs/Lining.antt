-- A text cut into its lines, and its faulty ones told. Assumes nothing.
use Rattle.std.proofs.Common.{◌≡◌, ℕ, ◌+◌, ◌<◌, ◌≤◌, min, true, false, cond, eqb, List, [], ◌∷◌, ◌++◌, length, get_or, take, drop, sym, refl, ap, ◌∙◌, subst, inl, inr, arith}
use Rattle.std.specs.List.{onto_first, AllByRecursion, IsFirstMatchOrLen}
use Rattle.std.proofs.lemmas.Bool.{ne_eqb, eqb-true, cases_lt}
use Rattle.std.proofs.lemmas.List.{take-append-drop, take_more, drop_more, take_all, drop_all, length-take}
use Rattle.script.specs.Texts.{lines, StartsWith, FaultyOnes, none, passed, told}
use Rattle.script.specs.Verdicts.{Judged, faulty}
use Rattle.script.specs.declared.faults.FaultyLine.{FaultyLine}
use Rattle.script.specs.declared.faults.LineFault.{LineFault}
use Rattle.script.proofs.Firsts.{none_before}
use Rattle.script.proofs.Laws.{not_faulty, one_verdict}

-- A byte that does not end a line.
abbrev pub Inner : ℕ → Type 0
Inner b = b ≡ 10 → ⊥

line_at : (f rest : List ℕ) → AllByRecursion Inner f → lines (f ++ 10 ∷ rest) ≡ (f ++ 10 ∷ []) ∷ lines rest
line_at [] rest h = refl
line_at (a ∷ f) rest h = rw (ne_eqb a 10 h.0, line_at f rest h.1)

line_last : (a : ℕ) (f : List ℕ) → AllByRecursion Inner (a ∷ f) → lines (a ∷ f) ≡ (a ∷ f) ∷ []
line_last a [] h = rw (ne_eqb a 10 h.0)
line_last a (b ∷ f) h = rw (ne_eqb a 10 h.0) (ap (onto_first a) (line_last b f h.1))

only_line : (xs : List ℕ) → 0 < length xs → AllByRecursion Inner xs → lines xs ≡ xs ∷ []
only_line [] l h = absurd (omega arith)
only_line (a ∷ f) l h = line_last a f h

-- the first line goes to the first end byte
starts_at : (xs : List ℕ) (i : ℕ) → i < length xs → get_or xs i 0 ≡ 10 → AllByRecursion Inner (take i xs) → StartsWith xs (take (i + 1) xs) (drop (i + 1) xs)
starts_at xs i lt e h =
    let d : drop i xs ≡ 10 ∷ drop (i + 1) xs = drop_more xs i 0 lt ∙ ap (λ (x : ℕ). x ∷ drop (i + 1) xs) e in
    let t : take (i + 1) xs ≡ take i xs ++ 10 ∷ [] = take_more xs i 0 lt ∙ ap (λ (x : ℕ). take i xs ++ x ∷ []) e in
    let w : xs ≡ take i xs ++ 10 ∷ drop (i + 1) xs = sym (take-append-drop i xs) ∙ ap (λ (ys : List ℕ). take i xs ++ ys) d in
    record {
      cut = ap lines w ∙ line_at (take i xs) (drop (i + 1) xs) h ∙ ap (λ (ys : List ℕ). ys ∷ lines (drop (i + 1) xs)) (sym t);
      whole = sym (take-append-drop (i + 1) xs);
      some = omega (arith, length-take (i + 1) xs);
    }

-- a text without an end byte is one line
starts_all : (xs : List ℕ) (i : ℕ) → 0 < length xs → length xs ≤ i → AllByRecursion Inner (take i xs) → StartsWith xs (take (length xs) xs) (drop (length xs) xs)
starts_all xs i l k h =
    let g : AllByRecursion Inner xs = subst (AllByRecursion Inner) (take_all i xs k) h in
    let t : take (length xs) xs ≡ xs = take_all (length xs) xs (omega arith) in
    let d : drop (length xs) xs ≡ [] = drop_all (length xs) xs (omega arith) in
    record {
      cut = only_line xs l g ∙ ap (λ (ys : List ℕ). ys ∷ []) (sym t) ∙ ap (λ (ys : List ℕ). take (length xs) xs ∷ lines ys) (sym d);
      whole = sym (take-append-drop (length xs) xs);
      some = omega (arith, length-take (length xs) xs);
    }

-- the first line has n bytes, as many as go to the first end byte or to the end
pub starts_first : (xs : List ℕ) (i n : ℕ) → 0 < length xs → n ≡ min (i + 1) (length xs) → IsFirstMatchOrLen (λ b. eqb b 10) xs i → StartsWith xs (take n xs) (drop n xs)
starts_first xs i n some e h =
    let f = none_before 10 xs i h.0 in
    let P : ℕ → Type 0 = λ k. StartsWith xs (take k xs) (drop k xs) in
    elim (cases_lt i (length xs)) [
      | inl l ↦ let k : i + 1 ≡ n = omega arith in subst P k (starts_at xs i l (eqb-true _ 10 (h.1 l 0)) f)
      | inr l ↦ let k : length xs ≡ n = omega arith in subst P k (starts_all xs i some l f)
    ]

-- a text has no more lines than bytes

fit_onto : (b n : ℕ) (ls : List (List ℕ)) → length ls ≤ n → length (onto_first b ls) ≤ n + 1
fit_onto b n [] h = omega arith
fit_onto b n (l ∷ ls) h = omega arith

fit_step : (b n : ℕ) (ls : List (List ℕ)) → length ls ≤ n → length (cond (eqb b 10) ((b ∷ []) ∷ ls) (onto_first b ls)) ≤ n + 1
fit_step b n ls h =
    elim (eqb b 10) as (λ t. length (cond t ((b ∷ []) ∷ ls) (onto_first b ls)) ≤ n + 1) [ true ↦ omega arith | false ↦ fit_onto b n ls h ]

pub lines_fit : (xs : List ℕ) → length (lines xs) ≤ length xs
lines_fit [] = omega arith
lines_fit (b ∷ bs) = let h = fit_step b (length bs) (lines bs) (lines_fit bs) in omega (arith, h)

-- the entry of a faulty line comes first
pub told_first : (n : ℕ) (line : List ℕ) (ls : List (List ℕ)) (e : FaultyLine) → Judged line (faulty e.fault) → e.line ≡ n → (more : List FaultyLine) → FaultyOnes (n + 1) ls more → FaultyOnes n (line ∷ ls) (e ∷ more)
told_first n line ls e j is more t =
    subst (λ (k : ℕ). FaultyOnes n (line ∷ ls) (record { line = k; fault = e.fault } ∷ more)) (sym is) (told e.fault j t)

-- the faulty lines of a text are determined

faulty_is : (f g : LineFault) → faulty f ≡ faulty g → f ≡ g
faulty_is f g e = cc

same_line : (n : ℕ) (f g : LineFault) (es fs : List FaultyLine) → f ≡ g → es ≡ fs → ◌≡◌ {A = List FaultyLine} (record { line = n; fault = f } ∷ es) (record { line = n; fault = g } ∷ fs)
same_line n f g es fs p q = cc

pub same_ones : {n : ℕ} {ls : List (List ℕ)} {es fs : List FaultyLine} → FaultyOnes n ls es → FaultyOnes n ls fs → es ≡ fs
same_ones none none = refl
same_ones (passed m j t) (passed p k u) = same_ones t u
same_ones (passed m j t) (told f k u) = absurd (not_faulty _ m f j k)
same_ones (told f j t) (passed m k u) = absurd (not_faulty _ m f k j)
same_ones (told f j t) (told g k u) = same_line _ f g _ _ (faulty_is f g (one_verdict _ (faulty f) (faulty g) j k)) (same_ones t u)
