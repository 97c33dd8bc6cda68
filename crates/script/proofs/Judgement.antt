-- From the parts of a line to its verdict. Assumes nothing.
use Rattle.std.proofs.Common.{◌≡◌, ℕ, eqb, ◌<◌, List, [], ◌∷◌, ◌++◌, length, IfOk, Ok, Err, Result, sym, refl, ap, ◌∙◌, subst, arith, MatchResult}
use Rattle.std.specs.List.{AllByRecursion}
use Rattle.std.proofs.lemmas.List.Splits.{length-slice_split}
use Rattle.script.specs.Verdicts.{Judged, verdict, Tidy}
use Rattle.script.specs.declared.command.Command.{Command}
use Rattle.script.specs.Format.{Meaning, meaning, name, shape, front, commas, Commaless, WellFormed, Accepted, Parted, Faulty}
use Rattle.script.specs.Parts.{parts, Says, Misfit}
use Rattle.script.specs.declared.command.Word.{Word}
use Rattle.script.specs.declared.faults.LineFault.{LineFault}
use Rattle.script.specs.declared.faults.LineFault.TheVariants.{UnknownWord, FieldCount}
use Rattle.script.proofs.Cuts.{rejoined, parts_apart}

module _ (l b : List ℕ) (form : WellFormed l b) where
  -- a well-formed line is parted as its bytes are
  parted : (f : List ℕ) (fs : List (List ℕ)) → parts b ≡ f ∷ fs → Parted l f fs
  parted f fs e = record { form = subst (WellFormed l) (rejoined b f fs e) form; commaless = subst (AllByRecursion Commaless) e (parts_apart b) }

  unknown_at : (gs : List (List ℕ)) → parts b ≡ gs → 0 < length gs → ((w : Word) (fs : List (List ℕ)) → parts b ≡ name w ∷ fs → ⊥) → Faulty l UnknownWord
  unknown_at [] e h n = absurd (omega arith)
  unknown_at (g ∷ gs) e h n = (g, gs, parted g gs e, λ w q. n w gs (e ∙ ap (λ (x : List ℕ). x ∷ gs) q))

  pub unknown : ((w : Word) (fs : List (List ℕ)) → parts b ≡ name w ∷ fs → ⊥) → Faulty l UnknownWord
  unknown n = unknown_at (parts b) refl (omega (arith, length-slice_split (λ x. eqb x 44) b)) n

  pub miscounted : (w : Word) (fs : List (List ℕ)) → parts b ≡ name w ∷ fs → (length fs ≡ length (shape w) → ⊥) → Faulty l FieldCount
  miscounted w fs e n = (w, fs, parted (name w) fs e, n)

  pub misfit : (w : Word) (fs : List (List ℕ)) → parts b ≡ name w ∷ fs → length fs ≡ length (shape w) → (f : LineFault) → Misfit (shape w) fs f → Faulty l f
  misfit w fs e n f bad =
      subst (Faulty l) (sym bad.names) (w, fs, parted (name w) fs e, n, bad.leftmost)

  pub said : (w : Word) (fs : List (List ℕ)) → parts b ≡ name w ∷ fs → (m : Meaning) → Says w fs m → Accepted l m
  said w fs e m s =
      let q : b ≡ front m = rejoined b (name w) fs e ∙ ap (λ (v : Word). name v ++ commas fs) (sym s.same_word) ∙ ap (λ (gs : List (List ℕ)). name m.0 ++ commas gs) (sym s.same_fields) in
      record { fit = s.fit; form = subst (WellFormed l) q form }

  -- what reading the fields answers is the verdict
  pub judged_fields : (w : Word) (fs : List (List ℕ)) → parts b ≡ name w ∷ fs → length fs ≡ length (shape w) → (r : Result Command LineFault) → MatchResult r (λ c. Says w fs (meaning c) × Tidy c) (λ f. Misfit (shape w) fs f) → Judged l (verdict r) × IfOk r Tidy
  judged_fields w fs e n (Ok c) h = (said w fs e (meaning c) h.0, h.1)
  judged_fields w fs e n (Err f) h = (misfit w fs e n f h, tt)
