-- Bytes cut at their commas, and joined again. Assumes nothing.
use Rattle.std.proofs.Common.{◌≡◌, ℕ, ◌-◌, ◌<◌, cond, eqb, List, [], ◌∷◌, ◌++◌, length, take, drop, count_by, sym, refl, ap, ◌∙◌, ⊎_elim, arith}
use Rattle.std.specs.List.{AllByRecursion, onto_first, join_with_byte}
use Rattle.std.proofs.lemmas.List.{append-nil, take_all, take-append-drop, append_assoc}
use Rattle.std.proofs.lemmas.List.Splits.{length-slice_split, join_with_byte-slice_split}
use Rattle.std.proofs.lemmas.List.Sums.{sum_by-cons}
use Rattle.std.proofs.lemmas.Bool.{ne_eqb}
use Rattle.std.proofs.lemmas.Bool.Decides.{eqb_tells}
use Rattle.script.specs.Format.{commas, Commaless, NotComma}
use Rattle.script.specs.Parts.{parts, after, Ends}

pub cut_at : (f rest : List ℕ) → Commaless f → Ends rest → parts (f ++ rest) ≡ f ∷ after rest
cut_at [] [] h e = refl
cut_at [] (b ∷ bs) h e = rw e
cut_at (a ∷ f) rest h e = rw (ne_eqb a 44 h.0, cut_at f rest h.1 e)

pub first_part : (bs f r : List ℕ) (k : ℕ) → f ≡ take k bs → r ≡ drop k bs → Commaless f → Ends r → parts bs ≡ f ∷ after r
first_part bs f r k p q h e =
    let whole : f ++ r ≡ bs = ap (λ (x : List ℕ). x ++ r) p ∙ ap (λ (x : List ℕ). take k bs ++ x) q ∙ take-append-drop k bs in
    ap parts (sym whole) ∙ cut_at f r h e

-- as many fields as commas

pub length_after : (rest : List ℕ) → Ends rest → length (after rest) ≡ count_by (λ b. eqb b 44) rest
length_after [] e = refl
length_after (b ∷ bs) e = length-slice_split (λ x. eqb x 44) bs ∙ sym (sum_by-cons (λ x. cond (eqb x 44) 1 0) b bs ∙ rw e (omega arith))

-- the parts joined again are the bytes, and no part has a comma

joined_commas : (f : List ℕ) (fs : List (List ℕ)) → join_with_byte 44 (f ∷ fs) ≡ f ++ commas fs
joined_commas f [] = sym (append-nil f)
joined_commas f (g ∷ gs) = ap (λ (xs : List ℕ). f ++ 44 ∷ xs) (joined_commas g gs)

pub rejoined : (bs f : List ℕ) (fs : List (List ℕ)) → parts bs ≡ f ∷ fs → bs ≡ f ++ commas fs
rejoined bs f fs e = sym (join_with_byte-slice_split 44 bs) ∙ ap (join_with_byte 44) e ∙ joined_commas f fs

apart_onto : (b : ℕ) (fs : List (List ℕ)) → NotComma b → AllByRecursion Commaless fs → AllByRecursion Commaless (onto_first b fs)
apart_onto b [] h k = ((h, tt), tt)
apart_onto b (f ∷ fs) h k = ((h, k.0), k.1)

apart_step : (b : ℕ) (fs : List (List ℕ)) → AllByRecursion Commaless fs → AllByRecursion Commaless (cond (eqb b 44) ([] ∷ fs) (onto_first b fs))
apart_step b fs k =
    ⊎_elim
    (λ p. rw p.0 (tt, k))
    (λ p. rw p.0 (apart_onto b fs p.1 k))
    (eqb_tells b 44)

pub parts_apart : (bs : List ℕ) → AllByRecursion Commaless (parts bs)
parts_apart [] = (tt, tt)
parts_apart (b ∷ bs) = apart_step b (parts bs) (parts_apart bs)

pub ends_commas : (fs : List (List ℕ)) → Ends (commas fs)
ends_commas [] = tt
ends_commas (f ∷ fs) = refl

pub parts_joined : (f : List ℕ) (fs : List (List ℕ)) → Commaless f → AllByRecursion Commaless fs → parts (f ++ commas fs) ≡ f ∷ fs
parts_joined f [] h hs = cut_at f [] h tt
parts_joined f (g ∷ gs) h hs = cut_at f (44 ∷ (g ++ commas gs)) h refl ∙ ap (λ (x : List (List ℕ)). f ∷ x) (parts_joined g gs hs.0 hs.1)

pub after_commas : (fs : List (List ℕ)) → AllByRecursion Commaless fs → after (commas fs) ≡ fs
after_commas [] h = refl
after_commas (f ∷ fs) h = parts_joined f fs h.0 h.1

pub commas_append : (fs gs : List (List ℕ)) → commas (fs ++ gs) ≡ commas fs ++ commas gs
commas_append [] gs = refl
commas_append (f ∷ fs) gs =
    ap (λ (xs : List ℕ). 44 ∷ (f ++ xs)) (commas_append fs gs) ∙ ap (λ (xs : List ℕ). 44 ∷ xs) (sym (append_assoc f (commas fs) (commas gs)))

-- the first byte is a comma, and the fields stand after it
pub after_is : (xs : List ℕ) → 0 < length xs → after xs ≡ parts (take (length xs - 1) (drop 1 xs))
after_is [] h = absurd (omega arith)
after_is (x ∷ xs) h = ap parts (sym (take_all _ xs (omega arith)))
