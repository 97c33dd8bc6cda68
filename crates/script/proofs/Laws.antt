-- One verdict for each line, and one line for each command. Assumes nothing.
use Rattle.std.proofs.Common.{◌≡◌, ℕ, suc, ◌+◌, ◌≤◌, Bool, true, false, cond, eqb, List, [], ◌∷◌, map, length, get_or, drop, decimal, sym, refl, ap, ◌∙◌, subst, inl, inr, arith}
use Rattle.std.specs.List.{AllByRecursion}
use Rattle.std.specs.Str.Parse.{digits_value}
use Rattle.std.proofs.lemmas.Fmt.{decimal_is_IsNumeral}
use Rattle.std.proofs.lemmas.List.{same_from_push, append-nil, get_or_default}
use Rattle.std.proofs.lemmas.List.Elements.{recursion_from_All}
use Rattle.std.proofs.lemmas.Str.Parse.{digit_at}
use Rattle.script.specs.Format.{name, shape, Form, number, count, mask, text, Value, Fit, shown, Values, AllFit, shown_all, Meaning, fields, commas, front, NotComma, Commaless, WellFormed, Accepted, Parted, FirstBad, Faulty}
use Rattle.script.specs.Parts.{parts, after}
use Rattle.script.specs.Verdicts.{Verdict, accepted, faulty, Judged, AnAcceptedLineIsTheOnlyLineOfItsCommand}
use Rattle.script.specs.declared.command.Word.{Word}
use Rattle.script.specs.declared.command.Word.TheVariants.{Hall, PumpType, Add, Withdraw, Take, Shut, Open, Report, Note}
use Rattle.script.specs.declared.faults.LineFault.{LineFault}
use Rattle.script.specs.declared.faults.LineFault.TheVariants.{Malformed, UnknownWord, FieldCount, BadField}
use Rattle.script.proofs.Cuts.{parts_joined, after_commas}
use Rattle.script.proofs.Names.{same_word, same_rest, same_name, name_whole}

-- one field

-- what the program's types let a field hold: numbers of 16 bits
abbrev pub Held : (s : Form) → Value s → Type 0
Held number n = n ≤ 65535
Held count n = n ≤ 65535
Held mask ms = Unit {0}
Held text t = Unit {0}

held_from_fit : (s : Form) (v : Value s) → Fit s v → Held s v
held_from_fit number n h = h
held_from_fit count n h = omega arith
held_from_fit mask ms h = tt
held_from_fit text t h = tt

decimal_whole : (n : ℕ) → n ≤ 65535 → Commaless (decimal n)
decimal_whole n h =
    recursion_from_All NotComma (decimal n)
    (λ i x l e. let d = digit_at (decimal n) i (decimal_is_IsNumeral n (omega arith)).0.1 l in omega (arith, d, get_or_default (decimal n) i x 0 l))

mark_apart : (m : Bool) → NotComma (cond m 49 48)
mark_apart true e = omega arith
mark_apart false e = omega arith

marks_whole : (ms : List Bool) → Commaless (shown mask ms)
marks_whole [] = tt
marks_whole (m ∷ ms) = (mark_apart m, marks_whole ms)

fit_whole : (s : Form) (v : Value s) → Fit s v → Commaless (shown s v)
fit_whole number n h = decimal_whole n h
fit_whole count n h = decimal_whole n (omega arith)
fit_whole mask ms h = marks_whole ms
fit_whole text t h = h

-- the value that is written so
given : (s : Form) → List ℕ → Value s
given number f = digits_value 10 f
given count f = digits_value 10 f
given mask f = map (λ b. eqb b 49) f
given text f = f

given_mark : (m : Bool) → eqb (cond m 49 48) 49 ≡ m
given_mark true = refl
given_mark false = refl

given_marks : (ms : List Bool) → map (λ b. eqb b 49) (shown mask ms) ≡ ms
given_marks [] = refl
given_marks (m ∷ ms) = rw (given_mark m, given_marks ms)

given_shown : (s : Form) (v : Value s) → Held s v → given s (shown s v) ≡ v
unfolding given
given_shown number n h = (decimal_is_IsNumeral n (omega arith)).1
given_shown count n h = (decimal_is_IsNumeral n (omega arith)).1
given_shown mask ms h = given_marks ms
given_shown text t h = refl

-- all the fields of a line

abbrev pub AllHeld : (ss : List Form) → Values ss → Type 0
AllHeld [] vs = Unit {0}
AllHeld (s ∷ ss) vs = Held s vs.0 × AllHeld ss vs.1

pub all_held : (ss : List Form) (vs : Values ss) → AllFit ss vs → AllHeld ss vs
all_held [] vs h = tt
all_held (s ∷ ss) vs h = (held_from_fit s vs.0 h.0, all_held ss vs.1 h.1)

all_whole : (ss : List Form) (vs : Values ss) → AllFit ss vs → AllByRecursion Commaless (shown_all ss vs)
all_whole [] vs h = tt
all_whole (s ∷ ss) vs h = (fit_whole s vs.0 h.0, all_whole ss vs.1 h.1)

same_count : (ss : List Form) (vs : Values ss) → length (shown_all ss vs) ≡ length ss
same_count [] vs = refl
same_count (s ∷ ss) vs = ap suc (same_count ss vs.1)

none_bad : (ss : List Form) (vs : Values ss) (i k : ℕ) → AllFit ss vs → FirstBad ss (shown_all ss vs) i k → ⊥
none_bad [] vs i k h b = b
none_bad (s ∷ ss) vs i k h (inl x) = x.1 (vs.0, h.0, refl)
none_bad (s ∷ ss) vs i k h (inr x) = none_bad ss vs.1 (i + 1) k h.1 x.1

same_bad : (ss : List Form) (fs : List (List ℕ)) (i j k : ℕ) → FirstBad ss fs i j → FirstBad ss fs i k → j ≡ k
same_bad [] fs i j k a b = absurd a
same_bad (s ∷ ss) [] i j k a b = absurd a
same_bad (s ∷ ss) (f ∷ fs) i j k (inl x) (inl y) = x.0 ∙ sym y.0
same_bad (s ∷ ss) (f ∷ fs) i j k (inl x) (inr y) = absurd (x.1 y.0)
same_bad (s ∷ ss) (f ∷ fs) i j k (inr x) (inl y) = absurd (y.1 x.0)
same_bad (s ∷ ss) (f ∷ fs) i j k (inr x) (inr y) = same_bad ss fs (i + 1) j k x.1 y.1

givens : (ss : List Form) → List (List ℕ) → Values ss
givens [] fs = tt
givens (s ∷ ss) [] = (given s [], givens ss [])
givens (s ∷ ss) (f ∷ fs) = (given s f, givens ss fs)

givens_texts : (ss : List Form) (vs : Values ss) → AllHeld ss vs → givens ss (shown_all ss vs) ≡ vs
unfolding givens
givens_texts [] vs h = refl
givens_texts (s ∷ ss) vs h = rw (given_shown s vs.0 h.0, givens_texts ss vs.1 h.1)

-- a line is parted in one way

same_parts : (l f g : List ℕ) (fs gs : List (List ℕ)) → Parted l f fs → Parted l g gs → ◌≡◌ {A = List (List ℕ)} (f ∷ fs) (g ∷ gs)
same_parts l f g fs gs c d =
    sym (parts_joined f fs c.commaless.0 c.commaless.1)
    ∙ ap parts (same_from_push _ _ 10 10 (sym c.form.ended ∙ d.form.ended)).0
    ∙ parts_joined g gs d.commaless.0 d.commaless.1

abbrev headed : List (List ℕ) → List ℕ
headed fs = get_or fs 0 []

abbrev tailed : List (List ℕ) → List (List ℕ)
tailed [] = []
tailed (f ∷ fs) = fs

same_fields : (l : List ℕ) (v w : Word) (fs gs : List (List ℕ)) → Parted l (name v) fs → Parted l (name w) gs → (v ≡ w) × (fs ≡ gs)
same_fields l v w fs gs c d =
    let e = same_parts l _ _ _ _ c d in
    (same_name v w (ap headed e), ap tailed e)

line_parted : (l : List ℕ) (m : Meaning) → Accepted l m → Parted l (name m.0) (fields m)
line_parted l m h = record { form = h.form; commaless = (name_whole m.0, all_whole (shape m.0) m.1 h.fit) }

-- an accepted line is not faulty

pub not_faulty : (l : List ℕ) (m : Meaning) (f : LineFault) → Accepted l m → Faulty l f → ⊥
not_faulty l m Malformed h r = r _ h.form
not_faulty l m UnknownWord h r = r.3 m.0 (ap headed (same_parts l _ _ _ _ r.2 (line_parted l m h)))
not_faulty l m FieldCount h r =
    let e = same_fields l _ _ _ _ r.2 (line_parted l m h) in
    r.3 (ap length e.1 ∙ same_count (shape m.0) m.1 ∙ ap (λ (x : Word). length (shape x)) (sym e.0))
not_faulty l m (BadField k) h r =
    let e = same_fields l _ _ _ _ r.2 (line_parted l m h) in
    let a : FirstBad (shape m.0) r.1 2 k = subst (λ (x : Word). FirstBad (shape x) r.1 2 k) e.0 r.4 in
    none_bad (shape m.0) m.1 2 k h.fit (subst (λ (x : List (List ℕ)). FirstBad (shape m.0) x 2 k) e.1 a)

-- a line has one fault

known_word : (l : List ℕ) (w : Word) (fs : List (List ℕ)) → Faulty l UnknownWord → Parted l (name w) fs → ⊥
known_word l w fs r p = r.3 w (ap headed (same_parts l _ _ _ _ r.2 p))

right_count : (l : List ℕ) (w : Word) (fs : List (List ℕ)) → Faulty l FieldCount → Parted l (name w) fs → length fs ≡ length (shape w) → ⊥
right_count l w fs r p n =
    let e = same_fields l _ _ _ _ r.2 p in
    r.3 (ap length e.1 ∙ n ∙ ap (λ (x : Word). length (shape x)) (sym e.0))

same_leftmost : (l : List ℕ) (j k : ℕ) → Faulty l (BadField j) → Faulty l (BadField k) → j ≡ k
same_leftmost l j k r s =
    let e = same_fields l _ _ _ _ r.2 s.2 in
    let a : FirstBad (shape s.0) r.1 2 j = subst (λ (x : Word). FirstBad (shape x) r.1 2 j) e.0 r.4 in
    same_bad (shape s.0) s.1 2 j k (subst (λ (x : List (List ℕ)). FirstBad (shape s.0) x 2 j) e.1 a) s.4

same_fault : (l : List ℕ) (f g : LineFault) → Faulty l f → Faulty l g → f ≡ g
same_fault l Malformed Malformed r s = refl
same_fault l Malformed UnknownWord r s = absurd (r _ s.2.form)
same_fault l Malformed FieldCount r s = absurd (r _ s.2.form)
same_fault l Malformed (BadField k) r s = absurd (r _ s.2.form)
same_fault l UnknownWord Malformed r s = absurd (s _ r.2.form)
same_fault l UnknownWord UnknownWord r s = refl
same_fault l UnknownWord FieldCount r s = absurd (known_word l _ _ r s.2)
same_fault l UnknownWord (BadField k) r s = absurd (known_word l _ _ r s.2)
same_fault l FieldCount Malformed r s = absurd (s _ r.2.form)
same_fault l FieldCount UnknownWord r s = absurd (known_word l _ _ s r.2)
same_fault l FieldCount FieldCount r s = refl
same_fault l FieldCount (BadField k) r s = absurd (right_count l _ _ r s.2 s.3)
same_fault l (BadField j) Malformed r s = absurd (s _ r.2.form)
same_fault l (BadField j) UnknownWord r s = absurd (known_word l _ _ s r.2)
same_fault l (BadField j) FieldCount r s = absurd (right_count l _ _ s r.2 r.3)
same_fault l (BadField j) (BadField k) r s = ap BadField (same_leftmost l j k r s)

-- no two commands share a line

abbrev NoText : List Form → Type 0
NoText [] = Unit {0}
NoText (number ∷ ss) = NoText ss
NoText (count ∷ ss) = NoText ss
NoText (mask ∷ ss) = NoText ss
NoText (text ∷ ss) = ⊥

held_whole : (ss : List Form) (vs : Values ss) → NoText ss → AllHeld ss vs → AllByRecursion Commaless (shown_all ss vs)
held_whole [] vs n h = tt
held_whole (number ∷ ss) vs n h = (decimal_whole vs.0 h.0, held_whole ss vs.1 n h.1)
held_whole (count ∷ ss) vs n h = (decimal_whole vs.0 h.0, held_whole ss vs.1 n h.1)
held_whole (mask ∷ ss) vs n h = (marks_whole vs.0, held_whole ss vs.1 n h.1)
held_whole (text ∷ ss) vs n h = absurd n

-- the fields that follow a word: a note's text is all there is, with its commas
abbrev follow : Word → List ℕ → List (List ℕ)
follow Note rest = drop 1 rest ∷ []
follow w rest = after rest

abbrev all_texts : (w : Word) → Values (shape w) → List (List ℕ)
all_texts w vs = shown_all (shape w) vs

follow_fields : (w : Word) (vs : Values (shape w)) → AllHeld (shape w) vs → follow w (commas (shown_all (shape w) vs)) ≡ shown_all (shape w) vs
follow_fields Hall vs h = after_commas (all_texts Hall vs) (held_whole (shape Hall) vs tt h)
follow_fields PumpType vs h = after_commas (all_texts PumpType vs) (held_whole (shape PumpType) vs tt h)
follow_fields Add vs h = after_commas (all_texts Add vs) (held_whole (shape Add) vs tt h)
follow_fields Withdraw vs h = after_commas (all_texts Withdraw vs) (held_whole (shape Withdraw) vs tt h)
follow_fields Take vs h = after_commas (all_texts Take vs) (held_whole (shape Take) vs tt h)
follow_fields Shut vs h = after_commas (all_texts Shut vs) (held_whole (shape Shut) vs tt h)
follow_fields Open vs h = after_commas (all_texts Open vs) (held_whole (shape Open) vs tt h)
follow_fields Report vs h = after_commas (all_texts Report vs) (held_whole (shape Report) vs tt h)
follow_fields Note vs h = ap (λ (t : List ℕ). t ∷ []) (append-nil vs.0)

read_back : Word → List ℕ → Meaning
read_back w rest = (w, givens (shape w) (follow w rest))

read_back_is : (m : Meaning) → AllHeld (shape m.0) m.1 → read_back m.0 (commas (fields m)) ≡ m
unfolding read_back
read_back_is m h = rw (follow_fields m.0 m.1 h, givens_texts (shape m.0) m.1 h)

pub same_meaning : (m p : Meaning) → AllHeld (shape m.0) m.1 → AllHeld (shape p.0) p.1 → front m ≡ front p → m ≡ p
same_meaning m p h k e =
    let w = same_word m.0 p.0 (commas (fields m)) (commas (fields p)) e in
    let r = same_rest m.0 p.0 (commas (fields m)) (commas (fields p)) e in
    sym (read_back_is m h) ∙ ap (λ (x : Word). read_back x (commas (fields m))) w ∙ ap (read_back p.0) r ∙ read_back_is p k

same_front : (l a b : List ℕ) → WellFormed l a → WellFormed l b → a ≡ b
same_front l a b c d = (same_from_push a b 10 10 (sym c.ended ∙ d.ended)).0

-- the laws

pub one_verdict : (l : List ℕ) (u v : Verdict) → Judged l u → Judged l v → u ≡ v
one_verdict l (accepted m) (accepted p) h k =
    ap accepted (same_meaning m p (all_held _ _ h.fit) (all_held _ _ k.fit) (same_front l _ _ h.form k.form))
one_verdict l (accepted m) (faulty f) h k = absurd (not_faulty l m f h k)
one_verdict l (faulty f) (accepted m) h k = absurd (not_faulty l m f k h)
one_verdict l (faulty f) (faulty g) h k = ap faulty (same_fault l f g h k)

pub only_line : (l : List ℕ) (v : Verdict) → Judged l v → AnAcceptedLineIsTheOnlyLineOfItsCommand l v
only_line l v j m e other h =
    let k : Accepted l m = subst (Judged l) e j in
    h.form.ended ∙ sym k.form.ended
