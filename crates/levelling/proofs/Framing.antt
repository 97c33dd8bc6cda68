-- A hall in a larger frame, with classes of which no pump stands and rigs that no standing pump can use.
use Rattle.std.proofs.Common.{◌≡◌, ℕ, ◌<◌, ◌≤◌, cond, ◌&&◌, ltb, ◌≢◌, ◌↔◌, sym, refl, ◌∙◌, inl, inr, arith}
use Rattle.std.proofs.lemmas.Bool.{cases_eq, cases_lt, both_ways, and_parts, and_from, ltb-true, lt-ltb, le-ltb}
use Rattle.levelling.specs.Sums.{Group, Alike}
use Rattle.levelling.specs.Halls.{Hall, Placing, Placement, height, Framed}
use Rattle.levelling.specs.Groups.{Tight}
use Rattle.levelling.specs.Levels.{Level, no_rig}
use Rattle.levelling.specs.Theorems.{ALargerFrameChangesNothing}
use Rattle.levelling.proofs.Sums.{sum_longer, sum_zero, sum_term}
use Rattle.levelling.proofs.Tightness.{stands, confined_framed, tight_framed}
use Rattle.levelling.proofs.Cutting.{level_cut, cuts_level}

-- ---- a placement in the larger frame
module _ {C R C' R' : ℕ} (H : Hall C R) (H' : Hall C' R') (framed : Framed H H') (x : Placing) (P : Placement H' x) where
  no_class : (c r : ℕ) → C ≤ c → c < C' → r < R' → x c r ≡ 0
  no_class c r a l lr = omega (arith, sum_term R' (x c) r lr, P.each_once c l, framed.no_pump c a l)

  no_rig_past : (c r : ℕ) → c < C' → R ≤ r → r < R' → x c r ≡ 0
  no_rig_past c r l a lr =
      elim (cases_eq (x c r) 0) [
        | inl z ↦ z
        | inr d ↦ elim (cases_lt c C) [
          | inr beyond ↦ no_class c r beyond l lr
          | inl lc ↦
              let some : H.standing c ≢ 0 = λ z. stands H' x P c r l lr d (sym (framed.standing c lc) ∙ z) in
              absurd (both_ways _ (framed.no_use c r lc some a lr) (P.on_usable c r l lr d))
        ]
      ]

  smaller : Placement H x
  smaller = record {
    on_usable = λ c r lc lr d.
        let l : c < C' = omega (arith, framed.classes) in
        let lr' : r < R' = omega (arith, framed.rigs) in
        let some : H.standing c ≢ 0 = λ z. stands H' x P c r l lr' d (sym (framed.standing c lc) ∙ z) in
        framed.usable c lc some r lr ∙ P.on_usable c r l lr' d;
    each_once = λ c lc.
        let l : c < C' = omega (arith, framed.classes) in
        sum_longer R R' (x c) (x c) framed.rigs (λ r b. refl) (λ r a b. no_rig_past c r l a b) ∙ P.each_once c l ∙ sym (framed.standing c lc);
  }

  same_heights : Alike R (height C x) (height C' x)
  same_heights r lr =
      sum_longer C C' (λ c. x c r) (λ c. x c r) framed.classes (λ c l. refl) (λ c a l. no_class c r a l (omega (arith, framed.rigs)))

  no_heights : (r : ℕ) → R ≤ r → r < R' → height C' x r ≡ 0
  no_heights r a lr = sum_zero C' _ (λ c l. no_rig_past c r l a lr)

  -- the rigs of G that H has
  within : Group → Group
  within G r = ltb r R && G r

  within_same : (G : Group) → Alike R G (within G)
  unfolding within
  within_same G r l = rw (lt-ltb r R l) refl

  tight_both : (F G : Group) → Alike R F G → Tight H (height C x) F ↔ Tight H' (height C' x) G
  tight_both F G same = tight_framed H H' framed F G same (height C x) (height C' x) same_heights no_heights

  level_larger : Level H (height C x) → Level H' (height C' x)
  unfolding within
  level_larger level = cuts_level H' (height C' x) no_rig (λ k.
      let old = level_cut H x smaller k no_rig level in
      record {
        group = within old.group;
        tight = (tight_both old.group (within old.group) (within_same old.group)).0 old.tight;
        above = λ r l b. elim (cases_lt r R) [
          | inl lr ↦ and_from _ _ (lt-ltb r R lr) (old.above r lr (omega (arith, same_heights r lr)))
          | inr a ↦ let none : ⊥ = omega (arith, no_heights r a l) in absurd none
        ];
        below = λ r l m e.
            let parts = and_parts (ltb r R) (old.group r) m in
            let lr = ltb-true r R parts.0 in
            omega (arith, same_heights r lr, old.below r lr parts.1 e);
      })

  level_smaller : Level H' (height C' x) → Level H (height C x)
  level_smaller level = cuts_level H (height C x) no_rig (λ k.
      let old = level_cut H' x P k no_rig level in
      record {
        group = old.group;
        tight = (tight_both old.group old.group (λ r l. refl)).1 old.tight;
        above = λ r l b. old.above r (omega (arith, framed.rigs)) (omega (arith, same_heights r l));
        below = λ r l m e. omega (arith, same_heights r l, old.below r (omega (arith, framed.rigs)) m e);
      })

-- ---- a placement in the smaller frame
-- x within C classes and R rigs, and 0 beyond
cut_off : ℕ → ℕ → Placing → Placing
cut_off C R x c r = cond (ltb c C && ltb r R) (x c r) 0

cut_same : (C R : ℕ) (x : Placing) (c : ℕ) → c < C → Alike R (x c) (cut_off C R x c)
unfolding cut_off
cut_same C R x c lc r lr = rw (lt-ltb c C lc, lt-ltb r R lr) refl

cut_there : (C R : ℕ) (x : Placing) (c r : ℕ) → cut_off C R x c r ≢ 0 → (c < C) × (r < R)
unfolding cut_off
cut_there C R x c r d =
    elim (cases_lt c C) [
      | inr a ↦ absurd (d (rw (le-ltb c C a) refl))
      | inl lc ↦ elim (cases_lt r R) [ inr a ↦ absurd (d (rw (lt-ltb c C lc, le-ltb r R a) refl)) | inl lr ↦ (lc, lr) ]
    ]

cut_none : (C R : ℕ) (x : Placing) (c r : ℕ) → ((c < C) × (r < R) → ⊥) → cut_off C R x c r ≡ 0
cut_none C R x c r out = elim (cases_eq (cut_off C R x c r) 0) [ inl z ↦ z | inr d ↦ absurd (out (cut_there C R x c r d)) ]

larger : {C R C' R' : ℕ} (H : Hall C R) (H' : Hall C' R') → Framed H H' → (x : Placing) → Placement H x → Placement H' (cut_off C R x)
larger {C} {R} {C'} {R'} H H' framed x P = record {
  on_usable = λ c r lc lr d.
      let at = cut_there C R x c r d in
      let some : x c r ≢ 0 = λ z. d (sym (cut_same C R x c at.0 r at.1) ∙ z) in
      sym (framed.usable c at.0 (stands H x P c r at.0 at.1 some) r at.1) ∙ P.on_usable c r at.0 at.1 some;
  each_once = λ c lc. elim (cases_lt c C) [
    | inl l ↦
        sym (sum_longer R R' (x c) (cut_off C R x c) framed.rigs (cut_same C R x c l) (λ r a b. cut_none C R x c r (λ w. omega (arith, w.1)))) ∙
        P.each_once c l ∙ framed.standing c l
    | inr a ↦ sum_zero R' _ (λ r l. cut_none C R x c r (λ w. omega (arith, w.0))) ∙ sym (framed.no_pump c a lc)
  ];
}

pub frames : ALargerFrameChangesNothing
frames C R C' R' H H' framed = (
  (λ x P. (cut_off C R x, larger H H' framed x P, cut_same C R x)),
  (λ y P. record {
    placement = smaller H H' framed y P;
    heights = same_heights H H' framed y P;
    no_height = no_heights H H' framed y P;
    confines = λ G. confined_framed H H' framed G G (λ r l. refl);
    level = (level_larger H H' framed y P, level_smaller H H' framed y P);
  }),
)
