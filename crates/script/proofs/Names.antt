-- No command word begins like another. Assumes nothing.
use Rattle.std.proofs.Common.{◌≡◌, ℕ, zero, suc, ◌+◌, ◌-◌, ◌≤◌, cond, eqb, List, [], ◌∷◌, ◌++◌, length, get_or, take, drop, sym, refl, ap, ◌∙◌, subst, arith, rules}
use Rattle.std.specs.List.{All}
use Rattle.std.proofs.Math.Seq.{take-append-add, drop-append_seam}
use Rattle.std.proofs.lemmas.List.{append_assoc, append_cancel_left, length-append, take-append-drop}
use Rattle.std.proofs.lemmas.List.Elements.{All-from_recursion}
use Rattle.script.specs.Format.{name, commas, Commaless}
use Rattle.script.specs.Parts.{parts, after, Ends}
use Rattle.script.proofs.Cuts.{cut_at, rejoined, ends_commas}
use Rattle.script.specs.declared.command.Word.{Word}
use Rattle.script.specs.declared.command.Word.TheVariants.{Hall, PumpType, Add, Withdraw, Take, Shut, Open, Report, Note}

-- the table of the words has every word
abbrev pub words : List Word
words = Hall ∷ PumpType ∷ Add ∷ Withdraw ∷ Take ∷ Shut ∷ Open ∷ Report ∷ Note ∷ []

pub every_word : (P : Word → Type 0) → All P words → (w : Word) → P w
every_word P h Hall = h 0 Hall (omega arith)
every_word P h PumpType = h 1 Hall (omega arith)
every_word P h Add = h 2 Hall (omega arith)
every_word P h Withdraw = h 3 Hall (omega arith)
every_word P h Take = h 4 Hall (omega arith)
every_word P h Shut = h 5 Hall (omega arith)
every_word P h Open = h 6 Hall (omega arith)
every_word P h Report = h 7 Hall (omega arith)
every_word P h Note = h 8 Hall (omega arith)

-- the word that bytes begin with, if they begin with one
abbrev guess : List ℕ → Word
guess bs =
    cond (eqb (get_or bs 0 0) 72) Hall (cond (eqb (get_or bs 0 0) 65) Add (cond (eqb (get_or bs 0 0) 87) Withdraw
    (cond (eqb (get_or bs 0 0) 83) Shut (cond (eqb (get_or bs 0 0) 79) Open (cond (eqb (get_or bs 0 0) 82) Report
    (cond (eqb (get_or bs 0 0) 78) Note (cond (eqb (get_or bs 1 0) 89) PumpType Take)))))))

guess_name : (w : Word) (rest : List ℕ) → guess (name w ++ rest) ≡ w
guess_name w rest =
    elim w as (λ v. guess (name v ++ rest) ≡ v)
    [ Hall ↦ refl | PumpType ↦ refl | Add ↦ refl | Withdraw ↦ refl | Take ↦ refl | Shut ↦ refl | Open ↦ refl | Report ↦ refl | Note ↦ refl ]

pub same_word : (v w : Word) (r s : List ℕ) → name v ++ r ≡ name w ++ s → v ≡ w
same_word v w r s e = sym (guess_name v r) ∙ ap guess e ∙ guess_name w s

pub same_rest : (v w : Word) (r s : List ℕ) → name v ++ r ≡ name w ++ s → r ≡ s
same_rest v w r s e = append_cancel_left (name w) r s (subst (λ (x : Word). name x ++ r ≡ name w ++ s) (same_word v w r s e) e)

pub same_name : (v w : Word) → name v ≡ name w → v ≡ w
same_name v w e = same_word v w [] [] (ap (λ (x : List ℕ). x ++ []) e)

pub name_short : (w : Word) → length (name w) ≤ 8
name_short w = every_word (λ v. length (name v) ≤ 8) (All-from_recursion (λ v. length (name v) ≤ 8) words (search rules)) w

pub name_whole : (w : Word) → Commaless (name w)
name_whole w = every_word (λ v. Commaless (name v)) (All-from_recursion (λ v. Commaless (name v)) words (search rules)) w

-- ---- a word that is looked for in the first k bytes alone

ends_take : (j : ℕ) (xs : List ℕ) → Ends xs → Ends (take j xs)
ends_take zero xs e = tt
ends_take (suc j) [] e = tt
ends_take (suc j) (x ∷ xs) e = e

-- what was cut off in front stands in front
in_front : (front first : List ℕ) (k : ℕ) (fs : List (List ℕ)) → parts (take k front) ≡ first ∷ fs → front ≡ first ++ drop (length first) front
in_front front first k fs e =
    let whole : front ≡ first ++ (commas fs ++ drop k front) =
    sym (take-append-drop k front) ∙ ap (λ (xs : List ℕ). xs ++ drop k front) (rejoined (take k front) first fs e)
    ∙ append_assoc first (commas fs) (drop k front) in
    let rest : drop (length first) front ≡ commas fs ++ drop k front =
    ap (drop (length first)) whole ∙ drop-append_seam first (commas fs ++ drop k front) in
    whole ∙ ap (λ (xs : List ℕ). first ++ xs) (sym rest)

pub front_fits : (front first : List ℕ) (k : ℕ) (fs : List (List ℕ)) → parts (take k front) ≡ first ∷ fs → length first ≤ length front
front_fits front first k fs e =
    omega (arith, ap length (in_front front first k fs e) ∙ length-append first (drop (length first) front))

-- a word that stands there, with nothing or a comma after it, is the first part
pub word_found : (front first : List ℕ) (k : ℕ) (fs : List (List ℕ)) (w : Word) → parts (take k front) ≡ first ∷ fs → first ≡ name w → Ends (drop (length first) front) → parts front ≡ name w ∷ after (drop (length first) front)
word_found front first k fs w e n h =
    ap parts (in_front front first k fs e ∙ ap (λ (xs : List ℕ). xs ++ drop (length first) front) n)
    ∙ cut_at (name w) (drop (length first) front) (name_whole w) h

-- and a word that is the first part stands there so
pub word_stands : (front first : List ℕ) (k : ℕ) (fs gs : List (List ℕ)) (w : Word) → (length (name w) ≤ length front → length (name w) ≤ 8 → length (name w) ≤ k) → parts (take k front) ≡ first ∷ fs → parts front ≡ name w ∷ gs → (first ≡ name w) × Ends (drop (length first) front)
word_stands front first k fs gs w room e p =
    let whole : front ≡ name w ++ commas gs = rejoined front (name w) gs p in
    let long : length front ≡ length (name w) + length (commas gs) = ap length whole ∙ length-append (name w) (commas gs) in
    let far : length (name w) ≤ k = room (omega (arith, long)) (name_short w) in
    let j : k ≡ length (name w) + (k - length (name w)) = omega (arith, far) in
    let head : take k front ≡ name w ++ take (k - length (name w)) (commas gs) =
    ap (take k) whole ∙ ap (λ (n : ℕ). take n (name w ++ commas gs)) j ∙ take-append-add (name w) (commas gs) (k - length (name w)) in
    let cut : ◌≡◌ {A = List (List ℕ)} (first ∷ fs) (name w ∷ after (take (k - length (name w)) (commas gs))) =
    sym e ∙ ap parts head
    ∙ cut_at (name w) (take (k - length (name w)) (commas gs)) (name_whole w) (ends_take (k - length (name w)) (commas gs) (ends_commas gs)) in
    let same : first ≡ name w = ap (λ (hs : List (List ℕ)). get_or hs 0 []) cut in
    let rest : drop (length first) front ≡ commas gs =
    ap (λ (xs : List ℕ). drop (length xs) front) same ∙ ap (drop (length (name w))) whole ∙ drop-append_seam (name w) (commas gs) in
    (same, subst Ends (sym rest) (ends_commas gs))
