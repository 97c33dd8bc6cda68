-- A table of sets that is filled from its start.
use Rattle.std.proofs.Common.{◌≡◌, ℕ, ◌+◌, ◌<◌, ◌≤◌, ◌≢◌, List, length, set, replicate, sym, ◌∙◌, subst, inl, inr, arith, length-set}
use lib.ListN.{length-replicate}
use Rattle.std.proofs.lemmas.List.{get_or-replicate, get_or_past, get_or-set_same, get_or-set_other}
use Rattle.std.proofs.lemmas.Bool.{cases_lt, cases_eq}
use Rattle.levelling.specs.Sums.{Group}
use Rattle.levelling.specs.Levels.{no_rig}
use Rattle.rigset.specs.declared.set.RigSet.{RigSet}
use Rattle.rigset.specs.Sets.{RigsAre}
use Rattle.rigset.proofs.Digits.{has_none}
use Rattle.sheet.specs.Readings.{set_at}

-- the first n places have the sets that f tells, and the others the empty set
abbrev pub Filled : List RigSet → (ℕ → Group) → ℕ → Type 0
Filled sets f n =
    (length sets ≡ 64) × ((t : ℕ) → t < n → RigsAre (set_at sets t).word (f t)) × ((t : ℕ) → n ≤ t → RigsAre (set_at sets t).word no_rig)

pub filled_none : (s : RigSet) (f : ℕ → Group) → RigsAre s.word no_rig → Filled (replicate 64 s) f 0
filled_none s f none = (length-replicate 64 s, (λ t h. absurd (omega arith)), (λ t h. spare t))
  where
    spare : (t : ℕ) → RigsAre (set_at (replicate 64 s) t).word no_rig
    spare t = elim (cases_lt t 64) [
      | inl l ↦ subst (λ (x : RigSet). RigsAre x.word no_rig) (sym (get_or-replicate 64 t s (record { word = 0 }) l)) none
      | inr p ↦
          subst (λ (x : RigSet). RigsAre x.word no_rig)
          (sym (get_or_past (replicate 64 s) t (record { word = 0 }) (omega (arith, length-replicate 64 s)))) has_none
    ]

pub filled_more : (sets : List RigSet) (f : ℕ → Group) (n : ℕ) (s : RigSet) → n < 64 → RigsAre s.word (f n) →
    Filled sets f n → Filled (set sets n s) f (n + 1)
filled_more sets f n s h at old = (length-set sets n s ∙ old.0, front, spare)
  where
    front : (t : ℕ) → t < n + 1 → RigsAre (set_at (set sets n s) t).word (f t)
    front t l = elim (cases_eq t n) [
      | inl e ↦
          subst (λ (m : ℕ). RigsAre (set_at (set sets n s) m).word (f m)) (sym e)
          (subst (λ (x : RigSet). RigsAre x.word (f n))
          (sym (get_or-set_same sets n s (record { word = 0 }) (omega (arith, old.0)))) at)
      | inr ne ↦
          subst (λ (x : RigSet). RigsAre x.word (f t)) (sym (get_or-set_other sets n t s (record { word = 0 }) ne))
          (old.1 t (omega arith))
    ]

    spare : (t : ℕ) → n + 1 ≤ t → RigsAre (set_at (set sets n s) t).word no_rig
    spare t l =
        let ne : t ≢ n = omega arith in
        subst (λ (x : RigSet). RigsAre x.word no_rig) (sym (get_or-set_other sets n t s (record { word = 0 }) ne))
        (old.2 t (omega arith))
