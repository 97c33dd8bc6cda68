-- Pumps put on rigs and taken off them, and chains of moves: the heights that the rules ask for can be reached.
use Rattle.std.proofs.Common.{◌≡◌, ℕ, ◌+◌, ◌-◌, ◌<◌, true, cond, eqb, ◌≢◌, sym, refl, ap, ◌∙◌, inl, inr, arith}
use Rattle.std.proofs.lemmas.Bool.{cases_eq, both_ways, or_cases, or_left, eqb-true}
use Rattle.levelling.specs.Sums.{Group, only, Alike, sum_to, unit, OneMore, OneMoved}
use Rattle.levelling.specs.Halls.{Hall, Placing, Placement, height}
use Rattle.levelling.specs.Groups.{SmallestTight}
use Rattle.levelling.specs.Changes.{OnePumpMore, DonorOf, DonorTo, PlacedSo}
use Rattle.levelling.proofs.Sums.{sum_same, sum_add, sum_spot, over_unit, with_one}
use Rattle.levelling.proofs.Tightness.{stands}
use Rattle.levelling.proofs.Growing.{Out, Grown, done, adds}
use Rattle.levelling.proofs.Reaching.{steps, step_by, around, around_smallest, around_grown, around_from, given, donor_of_to}

-- ---- z' is z with one more pump of the class c on the rig b
abbrev PumpMore : ℕ → ℕ → Placing → Placing → Type 0
PumpMore c b z z' = (q r : ℕ) → z' q r ≡ z q r + cond (eqb q c) (unit b r) 0

put : ℕ → ℕ → Placing → Placing
put c b z q r = z q r + cond (eqb q c) (unit b r) 0

put_more : (c b : ℕ) (z : Placing) → PumpMore c b z (put c b z)
unfolding put
put_more c b z q r = refl

taken : ℕ → ℕ → Placing → Placing
taken c b z q r = z q r - cond (eqb q c) (unit b r) 0

taken_more : (c b : ℕ) (z : Placing) → z c b ≢ 0 → PumpMore c b (taken c b z) z
unfolding taken
taken_more c b z some q r =
    elim (cases_eq q c) [
      | inl e ↦ elim (cases_eq r b) [ inl f ↦ let there : z q r ≢ 0 = rw (e, f) some in grind arith | inr d ↦ grind arith ]
      | inr d ↦ grind arith
    ]

module _ {C R : ℕ} (H H' : Hall C R) (c b : ℕ) (more : OnePumpMore H c H') (lb : b < R)
    (z z' : Placing) (pump : PumpMore c b z z') where
  more_heights : OneMore R b (height C z) (height C z')
  more_heights r l =
      sum_same C _ _ (λ q lq. pump q r) ∙ sum_add C (λ q. z q r) (λ q. cond (eqb q c) (unit b r) 0) ∙
      ap (λ n. height C z r + n) (sum_spot C c (unit b r) more.class)

  -- the pumps of each class, over all rigs
  more_pumps : OneMore C c (λ q. sum_to R (z q)) (λ q. sum_to R (z' q))
  more_pumps q lq =
      sum_same R _ _ (λ r lr. pump q r) ∙ sum_add R (z q) (λ r. cond (eqb q c) (unit b r) 0) ∙
      ap (λ n. sum_to R (z q) + n) (over_unit R (λ r. eqb q c) b lb)

  more_placement : H.usable c b ≡ true → Placement H z → Placement H' z'
  more_placement can P = record {
    on_usable = λ q r lq lr there. sym (more.usable q lq r lr) ∙ elim (cases_eq (z q r) 0) [
      | inr d ↦ P.on_usable q r lq lr d
      | inl e ↦ let at = pump q r in elim (cases_eq q c) [
        | inl f ↦ elim (cases_eq r b) [ inl g ↦ rw (f, g) can | inr d ↦ absurd (there (grind arith)) ]
        | inr d ↦ absurd (there (grind arith))
      ]
    ];
    each_once = λ q lq. omega (arith, more_pumps q lq, P.each_once q lq, more.standing q lq);
  }

  less_placement : Placement H' z' → Placement H z
  less_placement P = record {
    on_usable = λ q r lq lr there. more.usable q lq r lr ∙ P.on_usable q r lq lr (λ e. there (omega (arith, pump q r)));
    each_once = λ q lq. omega (arith, more_pumps q lq, P.each_once q lq, more.standing q lq);
  }

-- ---- a pump of the class c moves from the rig a to the rig b
moved : ℕ → ℕ → ℕ → Placing → Placing
moved c a b z = put c b (taken c a z)

-- no other rig loses a pump
moved_keeps : (c a b : ℕ) (z : Placing) (q r : ℕ) → r ≢ a → z q r ≢ 0 → moved c a b z q r ≢ 0
unfolding moved put taken
moved_keeps c a b z q r d some e = some (grind arith)

-- the hall without one pump of the class c
pub fewer : {C R : ℕ} → Hall C R → ℕ → Hall C R
fewer H c = record { usable = H.usable; standing = λ q. H.standing q - unit c q }

pub fewer_more : {C R : ℕ} (H : Hall C R) (c : ℕ) → c < C → H.standing c ≢ 0 → OnePumpMore (fewer H c) c H
unfolding fewer
fewer_more H c lc some = record {
  class = lc;
  standing = λ q l. elim (cases_eq q c) [ inl e ↦ let d : H.standing q ≢ 0 = rw e some in grind arith | inr d ↦ grind arith ];
  usable = λ q lq r lr. refl;
}

module _ {C R : ℕ} (H : Hall C R) (z : Placing) (P : Placement H z) (c a b : ℕ) (lc : c < C) (la : a < R) (lb : b < R)
    (can : H.usable c b ≡ true) (some : z c a ≢ 0) where
  pulled_one : PlacedSo H (OneMoved R a b (height C z)) (moved c a b z)
  unfolding moved fewer
  pulled_one =
      let more = fewer_more H c lc (stands H z P c a lc la some) in
      let off = taken_more c a z some in
      let on = put_more c b (taken c a z) in
      record {
        placement = more_placement (fewer H c) H c b more lb (taken c a z) (put c b (taken c a z)) on can
            (less_placement (fewer H c) H c a more la (taken c a z) z off P);
        heights = λ r l.
            omega (
              arith,
              more_heights (fewer H c) H c a more la (taken c a z) z off r l,
              more_heights (fewer H c) H c b more lb (taken c a z) (put c b (taken c a z)) on r l,
            );
      }

-- ---- chains
-- from d to each rig r of S a chain of moves leads, in any placement that has x's pumps on the other rigs of S
abbrev Leads : {C R : ℕ} → Hall C R → Placing → ℕ → Group → Type 0
Leads {C} {R} H x d S =
    (r : ℕ) → r < R → S r ≡ true → (z : Placing) → Placement H z →
    ((c j : ℕ) → c < C → j < R → S j ≡ true → j ≢ r → x c j ≢ 0 → z c j ≢ 0) → (y : Placing) × PlacedSo H (OneMoved R d r (height C z)) y

module _ {C R : ℕ} (F H : Hall C R) (same : (c : ℕ) → c < C → Alike R (F.usable c) (H.usable c)) (x : Placing) (d : ℕ) where
  leads_start : Leads H x d (only d)
  leads_start r lr m z Q has =
      (z, record { placement = Q; heights = λ k l. ap (λ q. height C z k + unit q k) (eqb-true d r m) })

  -- the pump that steps out moves first, and the chain to where it stood follows
  leads_more : (S : Group) (out : Out R (steps F x) S) → Leads H x d S → Leads H x d (with_one S out.to)
  leads_more S out leads r lr m z Q has =
      elim (or_cases (S r) (eqb out.to r) m) [
        | inl old ↦ leads r lr old z Q (λ c j lc lj i. has c j lc lj (or_left _ _ i))
        | inr new ↦
            let a = out.from in
            let b = out.to in
            let e : b ≡ r = eqb-true b r new in
            let by = step_by F x a b out.step in
            let c = by.0 in
            let can : H.usable c b ≡ true = sym (same c by.1 b out.without) ∙ by.3 in
            let some : z c a ≢ 0 = has c a by.1 out.within (or_left _ _ out.held) (λ q. apart a out.held (q ∙ sym e)) by.2 in
            let first = pulled_one H z Q c a b by.1 out.within out.without can some in
            let rest = leads a out.within out.held (moved c a b z) first.placement
            (λ q j lq lj i ne there. moved_keeps c a b z q j ne (has q j lq lj (or_left _ _ i) (λ f. apart j i (f ∙ sym e)) there)) in (
              rest.0,
              record {
                placement = rest.1.placement;
                heights = λ k l. omega (arith, rest.1.heights k l, first.heights k l, ap (λ q. unit q k) e);
              },
            )
      ]
    where
      apart : (j : ℕ) → S j ≡ true → j ≢ out.to
      apart j i q = both_ways _ out.new (ap S (sym q) ∙ i)

  leads_all : {S G : Group} → Grown R (steps F x) S G → Leads H x d S → Leads H x d G
  leads_all done leads = leads
  leads_all (adds {S = S} out more) leads = leads_all more (leads_more S out leads)

  -- a chain leads from d to each rig of the smallest tight group around d, in any placement that has x's pumps elsewhere
  chain : (r : ℕ) → r < R → around F x (only d) r ≡ true → (z : Placing) → Placement H z →
      ((c j : ℕ) → j ≢ r → x c j ≢ 0 → z c j ≢ 0) → (y : Placing) × PlacedSo H (OneMoved R d r (height C z)) y
  chain r lr m z Q has =
      leads_all (around_grown F x (only d)) leads_start r lr m z Q (λ c j lc lj i ne some. has c j ne some)

-- ---- what the rules ask for
module _ {C R : ℕ} (H : Hall C R) (x : Placing) (P : Placement H x) where
  -- a pump of the class t can come so that any rig g of the smallest tight group around its usable set rises
  pub can_raise : (H' : Hall C R) (t g : ℕ) → OnePumpMore H t H' → (A : Group) → SmallestTight H (height C x) (H.usable t) A →
      g < R → A g ≡ true → (y : Placing) × PlacedSo H' (OneMore R g (height C x)) y
  can_raise H' t g more A a lg m =
      let U = H.usable t in
      let w = around_from H x P U g lg (a.least (around H x U) (around_smallest H x P U).fits (around_smallest H x P U).holds g lg m) in
      let p = w.0 in
      let on = put_more t p x in
      let Q = more_placement H H' t p more w.1 x (put t p x) on w.2 P in
      let last = chain H H' more.usable x p g lg w.3 (put t p x) Q (λ c j ne some e. some (omega (arith, on c j))) in (
        last.0,
        record {
          placement = last.1.placement;
          heights = λ k l. omega (arith, last.1.heights k l, more_heights H H' t p more w.1 x (put t p x) on k l);
        },
      )

  -- one can go so that any donor falls
  pub can_lower : (H' : Hall C R) (t d : ℕ) → OnePumpMore H' t H → DonorOf H (height C x) t d →
      (p : ℕ) → p < R → x t p ≢ 0 → (y : Placing) × PlacedSo H' (λ h. OneMore R d h (height C x)) y
  can_lower H' t d less donor p lp some =
      let off = taken_more t p x some in
      let Q = less_placement H' H t p less lp (taken t p x) x off P in
      let last = chain H H' (λ c lc r lr. sym (less.usable c lc r lr)) x d p lp
      (given H x P d p (donor_of_to H x P p lp t d less.class some donor)) (taken t p x) Q
      (λ c j ne there e. there (let at = off c j in grind arith)) in (
        last.0,
        record {
          placement = last.1.placement;
          heights = λ k l. omega (arith, last.1.heights k l, more_heights H' H t p less lp (taken t p x) x off k l);
        },
      )

  -- any donor can give one to a rig
  pub can_pull : (d r : ℕ) → r < R → DonorTo H (height C x) r d → (y : Placing) × PlacedSo H (OneMoved R d r (height C x)) y
  can_pull d r lr donor = chain H H (λ c lc j lj. refl) x d r lr (given H x P d r donor) x P (λ c j ne some. some)
