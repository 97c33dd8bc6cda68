-- Wherever each standing pump can use some rig there is a level placement: add the pumps one by one.
use Rattle.std.proofs.Common.{◌≡◌, ℕ, zero, suc, ◌<◌, true, false, ◌≢◌, ◌⊎◌, sym, refl, ap, ◌∙◌, inl, inr, arith}
use Rattle.std.proofs.lemmas.Bool.{cases_lt, cases_Bool, both_ways}
use Rattle.levelling.specs.Sums.{Group, sum_to}
use Rattle.levelling.specs.Halls.{Hall, Placing, Placement, height}
use Rattle.levelling.specs.Levels.{Level, Lowest}
use Rattle.levelling.specs.Theorems.{PumpsThatCanBePlacedHaveALevelPlacement}
use Rattle.levelling.proofs.Sums.{cases_last, not_below_zero, sum_zero, sum_term, sum_some, over_more}
use Rattle.levelling.proofs.Reaching.{around, around_smallest}
use Rattle.levelling.proofs.Chaining.{fewer, fewer_more}
use Rattle.levelling.proofs.Moving.{adding}

-- ---- a lowest rig of a group that has one
abbrev Lowly : ℕ → Group → (ℕ → ℕ) → Type 0
Lowly n A h = (g : ℕ) × Lowest n h (λ r. A r ≡ true) g

lowest : (n : ℕ) (A : Group) (h : ℕ → ℕ) → Lowly n A h ⊎ ((r : ℕ) → r < n → A r ≡ false)
lowest zero A h = inr (λ r l. not_below_zero r l)
lowest (suc n) A h = go (cases_Bool (A n)) (lowest n A h)
  where
    go : ((A n ≡ true) ⊎ (A n ≡ false)) → Lowly n A h ⊎ ((r : ℕ) → r < n → A r ≡ false) → Lowly (suc n) A h ⊎ ((r : ℕ) → r < suc n → A r ≡ false)
    go (inr f) (inr none) = inr (λ r l. elim (cases_last r n l) [ inl e ↦ ap A e ∙ f | inr b ↦ none r b ])
    go (inl t) (inr none) = inl (
      n,
      record {
        within = omega arith;
        has = t;
        least = λ r l m. elim (cases_last r n l) [ inl e ↦ omega (arith, ap h e) | inr b ↦ absurd (both_ways _ (none r b) m) ];
      },
    )
    go (inr f) (inl (g, low)) = inl (
      g,
      record {
        within = omega (arith, low.within);
        has = low.has;
        least = λ r l m. elim (cases_last r n l) [ inl e ↦ absurd (both_ways _ f (ap A (sym e) ∙ m)) | inr b ↦ low.least r b m ];
      },
    )
    go (inl t) (inl (g, low)) = elim (cases_lt (h n) (h g)) [
      | inl less ↦ inl (
        n,
        record {
          within = omega arith;
          has = t;
          least = λ r l m. elim (cases_last r n l) [ inl e ↦ omega (arith, ap h e) | inr b ↦ omega (arith, low.least r b m) ];
        },
      )
      | inr more ↦ inl (
        g,
        record {
          within = omega (arith, low.within);
          has = low.has;
          least = λ r l m. elim (cases_last r n l) [ inl e ↦ omega (arith, ap h e) | inr b ↦ low.least r b m ];
        },
      )
    ]

-- ---- pump by pump
abbrev Placeable : {C R : ℕ} → Hall C R → Type 0
Placeable {C} {R} H = (c : ℕ) → c < C → H.standing c ≢ 0 → (r : ℕ) × (r < R) × (H.usable c r ≡ true)

-- where n pumps stand
level_of : {C R : ℕ} (n : ℕ) (H : Hall C R) → sum_to C H.standing ≡ n → Placeable H → (x : Placing) × Placement H x × Level H (height C x)
level_of {C} {R} zero H total some = (
  (λ c r. 0),
  record {
    on_usable = λ c r lc lr d. absurd (d refl);
    each_once = λ c lc. sum_zero R _ (λ r l. refl) ∙ sym (let none : H.standing c ≡ 0 = omega (arith, sum_term C H.standing c lc) in none);
  },
  λ r j G lr lj a g e. omega (arith, sum_zero C (λ c. 0) (λ c lc. refl)),
)
level_of {C} {R} (suc n) H total some =
    let w = sum_some C H.standing (λ z. omega arith) in
    let t = w.0 in
    let more = fewer_more H t w.1 w.2 in
    let old = level_of n (fewer H t) (omega (arith, over_more C (λ c. true) t _ H.standing w.1 more.standing))
    (λ c lc d.
    let rig = some c lc (λ z. d (omega (arith, more.standing c lc))) in
    (rig.0, rig.1, more.usable c lc rig.0 rig.1 ∙ rig.2)) in
    let x = old.0 in
    let U = (fewer H t).usable t in
    let a = around_smallest (fewer H t) x old.1 U in
    let rig = some t w.1 w.2 in
    elim (lowest R (around (fewer H t) x U) (height C x)) [
      | inr none ↦ absurd (both_ways _ (none rig.0 rig.1) (a.holds rig.0 rig.1 (more.usable t w.1 rig.0 rig.1 ∙ rig.2)))
      | inl (g, low) ↦
          let new = adding C R (fewer H t) H x old.1 old.2 t more (around (fewer H t) x U) a g low in
          let y = new.0.0 in
          (y, new.0.1.placement, new.1 y new.0.1)
    ]

pub level_exists : PumpsThatCanBePlacedHaveALevelPlacement
level_exists C R H some = level_of (sum_to C H.standing) H refl some
