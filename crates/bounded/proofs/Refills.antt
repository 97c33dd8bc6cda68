-- A list that is emptied and then filled again, one entry after another. Assumes nothing.
use Rattle.std.proofs.Common.{◌≡◌, ℕ, ◌+◌, ◌<◌, ◌≤◌, List, [], ◌∷◌, ◌++◌, length, take, drop, Ok, Err, Result, sym, ap, ◌∙◌, arith, MatchResult}
use Rattle.std.proofs.lemmas.List.{take-append-drop, take_all, drop_all, drop-drop, length-drop, length_push, take-append-le}
use Rattle.bounded.specs.Entries.{entries, spare, Joins, Stays, Refilled}
use Rattle.bounded.specs.declared.Bounded.{Bounded}

-- an empty list has all its places to spare
pub all_spare : {E : Type 0} (b : Bounded E) → entries b ≡ [] → spare b ≡ b.places.now
all_spare b e = ap (λ xs. xs ++ spare b) (sym e) ∙ take-append-drop b.used b.places.now

-- an empty list was given nothing
pub refilled_none : {E : Type 0} (b : Bounded E) → entries b ≡ [] → Refilled b [] b
refilled_none b e =
    record {
      held = e ∙ sym (take_all (length b.places.now) [] (omega arith));
      rest = all_spare b e;
    }

-- filled from where it was emptied, and so from before
pub refilled_from : {E : Type 0} (before empty after : Bounded E) (es : List E) → empty.places.now ≡ before.places.now → Refilled empty es after → Refilled before es after
refilled_from before empty after es p r =
    record {
      held = r.held ∙ ap (λ xs. take (length xs) es) p;
      rest = r.rest ∙ ap (drop (length es)) p;
    }

module _ {E : Type 0} (before middle after : Bounded E) (es : List E) (x : E) (so : Refilled before es middle) where
  refilled_more : Joins middle x after → Refilled before (es ++ x ∷ []) after
  refilled_more j =
      let room : length es < length before.places.now = omega (arith, j.room, ap length so.rest, length-drop (length es) before.places.now) in
      let p : length (es ++ x ∷ []) ≡ length es + 1 = length_push es x in
      let a : take (length before.places.now) es ≡ es = take_all (length before.places.now) es (omega arith) in
      let b : take (length before.places.now) (es ++ x ∷ []) ≡ es ++ x ∷ [] = take_all (length before.places.now) (es ++ x ∷ []) (omega arith) in
      record {
        held = j.held ∙ ap (λ (ys : List E). ys ++ x ∷ []) (so.held ∙ a) ∙ sym b;
        rest = j.rest ∙ ap (drop 1) so.rest ∙ drop-drop 1 (length es) before.places.now ∙ ap (λ (k : ℕ). drop k before.places.now) (sym p);
      }

  refilled_full : spare middle ≡ [] → Stays middle after → Refilled before (es ++ x ∷ []) after
  refilled_full f s =
      let full : length before.places.now ≤ length es = omega (arith, ap length (sym so.rest ∙ f), length-drop (length es) before.places.now) in
      let p : length (es ++ x ∷ []) ≡ length es + 1 = length_push es x in
      let e : entries after ≡ entries middle = ap (λ (n : ℕ). take n after.places.now) s.count ∙ ap (take middle.used) s.held in
      let r : spare after ≡ spare middle = ap (λ (n : ℕ). drop n after.places.now) s.count ∙ ap (drop middle.used) s.held in
      record {
        held = e ∙ so.held ∙ sym (take-append-le (length before.places.now) es (x ∷ []) full);
        rest = r ∙ f ∙ sym (drop_all (length (es ++ x ∷ [])) before.places.now (omega arith));
      }

  -- whether the list had room or not
  pub refilled_push : {T F : Type 0} (r : Result T F) → MatchResult r (λ _. Joins middle x after) (λ _. (spare middle ≡ []) × Stays middle after) → Refilled before (es ++ x ∷ []) after
  refilled_push (Ok _) j = refilled_more j
  refilled_push (Err _) f = refilled_full f.0 f.1
