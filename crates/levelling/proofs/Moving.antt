-- A pump added, removed or pulled by the rules leaves what was level level: at every k a cut before gives one after.
use Rattle.std.proofs.Common.{◌≡◌, ℕ, ◌+◌, ◌<◌, ◌≤◌, true, false, cond, ◌||◌, ◌≢◌, ◌↔◌, sym, refl, ap, ◌∙◌, inl, inr, arith}
use Rattle.std.proofs.lemmas.Bool.{cases_eq, cases_lt, or_cases, or_left, or_right, ne_eqb, eqb-false}
use Rattle.levelling.specs.Sums.{Group, only, Inside, inside, OneMore, OneMoved}
use Rattle.levelling.specs.Halls.{Hall, Placing, Placement, height}
use Rattle.levelling.specs.Groups.{confined, Tight}
use Rattle.levelling.specs.Levels.{no_rig, Cut}
use Rattle.levelling.specs.Changes.{OnePumpMore, DonorTo}
use Rattle.levelling.specs.Theorems.{AddingToALowestRigOfItsSmallestTightGroupKeepsLevel, RemovingFromAHighestDonorKeepsLevel, APullFromAHighestDonorKeepsLevelButForTheRig, LevelWhenNoDonorToTheRigIsMoreThanOneHigher}
use Rattle.levelling.proofs.Sums.{over_same, over_more, over_moved, more_cases, moved_cases, sum_some, inside_decides, is_false}
use Rattle.levelling.proofs.Tightness.{inside_same, union_tight}
use Rattle.levelling.proofs.Chaining.{can_raise, can_lower, can_pull}
use Rattle.levelling.proofs.Reaching.{smallest_one, around, around_smallest, around_within, gives, given, donor_to_of}
use Rattle.levelling.proofs.Cutting.{over, over_smallest, over_holds, over_within, over_from, level_cut, cuts_level}

-- with one more pump of t and one more on g, a group is tight just if it was, where it confines t just if it has g
module _ {C R : ℕ} (H H' : Hall C R) (t g : ℕ) (more : OnePumpMore H t H') (lg : g < R) (h h' : ℕ → ℕ) (rise : OneMore R g h h') where
  tight_more : (G : Group) → inside R (H.usable t) G ≡ G g → Tight H h G ↔ Tight H' h' G
  tight_more G e =
      let count : confined H' G ≡ confined H G + cond (inside R (H.usable t) G) 1 0 =
      over_same C _ (λ c. inside R (H.usable c) G) H'.standing H'.standing
      (λ c l. sym (inside_same R _ _ G G (more.usable c l) (λ i b. refl))) (λ c l. refl) ∙
      over_more C (λ c. inside R (H.usable c) G) t H.standing H'.standing more.class more.standing in
      let placed = over_more R G g h h' lg rise in
      let same = ap (λ b. cond {A = ℕ} b 1 0) e in
      (λ d. omega arith, λ d. omega arith)

  tight_with : (G : Group) → Inside R (H.usable t) G → G g ≡ true → Tight H h G ↔ Tight H' h' G
  tight_with G i m = tight_more G ((inside_decides R _ G).1 i ∙ sym m)

  tight_without : (G : Group) → (Inside R (H.usable t) G → ⊥) → (G g ≡ true → ⊥) → Tight H h G ↔ Tight H' h' G
  tight_without G i m = tight_more G (is_false _ (λ e. i ((inside_decides R _ G).0 e)) ∙ sym (is_false _ m))

pub adding : AddingToALowestRigOfItsSmallestTightGroupKeepsLevel
adding C R H H' x P level t more A a g low =
    (can_raise H x P H' t g more A a low.within low.has, λ y to. cuts_level H' (height C y) no_rig (cuts (height C y) to.heights))
  where
    old : (k : ℕ) → Cut H (height C x) no_rig k
    old k = level_cut H x P k no_rig level

    lg : g < R
    lg = low.within

    cuts : (h : ℕ → ℕ) → OneMore R g (height C x) h → (k : ℕ) → Cut H' h no_rig k
    cuts h rise k =
        elim (cases_lt (height C x g) k) [
          | inl high ↦
              -- g is too low for the old group, which so does not confine t either
              let out : (old k).group g ≡ true → ⊥ = λ m. omega (arith, (old k).below g lg m refl) in
              record {
                group = (old k).group;
                tight = (tight_without H H' t g more lg (height C x) h rise (old k).group
                    (λ i. out (a.least (old k).group (old k).tight i g lg low.has)) out).0 (old k).tight;
                above = λ r l b. elim (more_cases R g (height C x) h rise r l) [
                  | inl q ↦ let none : ⊥ = omega (arith, ap (height C x) q.0) in absurd none
                  | inr q ↦ (old k).above r l (omega arith)
                ];
                below = λ r l m e. omega (arith, rise r l, (old k).below r l m e);
              }
          | inr under ↦ record {
            group = λ r. (old k).group r || A r;
            tight = (tight_with H H' t g more lg (height C x) h rise (λ r. (old k).group r || A r)
                (λ r l u. or_right _ _ (a.holds r l u)) (or_right _ _ low.has)).0
                (union_tight H x P (old k).group A (old k).tight a.fits);
            above = λ r l b. elim (more_cases R g (height C x) h rise r l) [
              | inl q ↦ or_right _ _ (ap A q.0 ∙ low.has)
              | inr q ↦ or_left _ _ ((old k).above r l (omega arith))
            ];
            below = λ r l m e.
                let was : k ≤ height C x r = elim (or_cases ((old k).group r) (A r) m) [
                  | inl o ↦ (old k).below r l o e
                  | inr n ↦ omega (arith, low.least r l n)
                ] in
                omega (arith, rise r l);
          }
        ]

-- a tight group with a donor to r has r
donor_brings : {C R : ℕ} (H : Hall C R) (x : Placing) → Placement H x → (d r : ℕ) → r < R → DonorTo H (height C x) r d →
    (G : Group) → Tight H (height C x) G → G d ≡ true → G r ≡ true
donor_brings H x P d r lr donor G t m = around_within H x P d G t m r lr (given H x P d r donor)

-- where r is in the group over k, some rig higher than k is a donor to r
higher_donor : {C R : ℕ} (H : Hall C R) (x : Placing) (P : Placement H x) (k r : ℕ) → r < R → over H x P k r ≡ true →
    (d : ℕ) × (d < R) × (k < height C x d) × DonorTo H (height C x) r d
higher_donor H x P k r lr m = let w = over_from H x P k r lr m in (w.0, w.1, w.2, gives H x P w.0 r w.1 lr w.3)

pub removing : RemovingFromAHighestDonorKeepsLevel
removing C R H H' x P level t less d top = (
  can_lower H x P H' t d less top.has p placed.1 placed.2,
  λ y to. cuts_level H' (height C y) no_rig (cuts (height C y) to.heights),
)
  where
    old : (k : ℕ) → Cut H (height C x) no_rig k
    old k = level_cut H x P k no_rig level

    ld : d < R
    ld = top.within

    -- t has a pump on some rig p
    placed : (p : ℕ) × (p < R) × (x t p ≢ 0)
    placed =
        let one = less.standing t less.class in
        let stood = P.each_once t less.class in
        sum_some R (x t) (λ z. grind arith)

    p : ℕ
    p = placed.0

    same_usable : (G : Group) → Inside R (H.usable t) G → Inside R (H'.usable t) G
    same_usable G i r l u = i r l (sym (less.usable t less.class r l) ∙ u)

    back_usable : (G : Group) → Inside R (H'.usable t) G → Inside R (H.usable t) G
    back_usable G i r l u = i r l (less.usable t less.class r l ∙ u)

    -- a tight group with d has the usable set of t
    with_d : (G : Group) → Tight H (height C x) G → G d ≡ true → Inside R (H.usable t) G
    with_d G tight m r l u =
        around_within H x P d G tight m r l (top.has (around H x (only d)) (around_smallest H x P (only d)) r l u)

    -- a group over k ≥ the height of d has not: else some rig higher than d were a donor
    not_over : (k : ℕ) → height C x d ≤ k → Inside R (H.usable t) (over H x P k) → ⊥
    not_over k b all =
        let lp = placed.1 in
        let w = higher_donor H x P k p lp (all p lp (P.on_usable t p less.class lp placed.2)) in
        omega (arith, top.most w.0 w.1 (donor_to_of H x P p lp t w.0 less.class placed.2 w.3), w.2)

    cuts : (h : ℕ → ℕ) → OneMore R d h (height C x) → (k : ℕ) → Cut H' h no_rig k
    cuts h fall k =
        elim (cases_lt k (height C x d)) [
          | inl high ↦
              let m = (old k).above d ld high in
              record {
                group = (old k).group;
                tight = (tight_with H' H t d less ld h (height C x) fall (old k).group
                    (same_usable (old k).group (with_d (old k).group (old k).tight m)) m).1 (old k).tight;
                above = λ r l b. (old k).above r l (omega (arith, fall r l));
                below = λ r l i e. elim (more_cases R d h (height C x) fall r l) [
                  | inl q ↦ omega (arith, ap (height C x) q.0)
                  | inr q ↦ omega (arith, (old k).below r l i e)
                ];
              }
          | inr under ↦
              let out : over H x P k d ≡ true → ⊥ =
              λ m. not_over k under (with_d (over H x P k) (over_smallest H x P k).fits m) in
              record {
                group = over H x P k;
                tight = (tight_without H' H t d less ld h (height C x) fall (over H x P k)
                    (λ i. not_over k under (back_usable (over H x P k) i)) out).1 (over_smallest H x P k).fits;
                above = λ r l b. over_holds H x P k r l (omega (arith, fall r l));
                below = λ r l i e. elim (more_cases R d h (height C x) fall r l) [
                  | inl q ↦ absurd (out (ap (over H x P k) (sym q.0) ∙ i))
                  | inr q ↦ omega (arith, (old k).below r l (over_within H x P k (old k).group (old k).tight (old k).above r l i) e)
                ];
              }
        ]

pub pulling : APullFromAHighestDonorKeepsLevelButForTheRig
pulling C R H x P r lr level d top two =
    (can_pull H x P d r lr top.has, λ y to. cuts_level H (height C y) (only r) (cuts (height C y) to.heights))
  where
    old : (k : ℕ) → Cut H (height C x) (only r) k
    old k = level_cut H x P k (only r) level

    ld : d < R
    ld = top.within

    apart : d ≢ r
    apart e = omega (arith, ap (height C x) e)

    tight_moved : (h : ℕ → ℕ) → OneMoved R d r (height C x) h → (G : Group) → G d ≡ G r → Tight H (height C x) G → Tight H h G
    tight_moved h moved G e t =
        omega (arith, over_moved R G d r (height C x) h ld lr moved, ap (λ b. cond {A = ℕ} b 1 0) e)

    not_r : (j : ℕ) → only r j ≡ false → j ≢ r
    not_r j e q = eqb-false r j e (sym q)

    cuts : (h : ℕ → ℕ) → OneMoved R d r (height C x) h → (k : ℕ) → Cut H h (only r) k
    cuts h moved k =
        elim (cases_lt k (height C x d)) [
          | inl high ↦
              let m = (old k).above d ld high in
              let mr = donor_brings H x P d r lr top.has (old k).group (old k).tight m in
              record {
                group = (old k).group;
                tight = tight_moved h moved (old k).group (m ∙ sym mr) (old k).tight;
                above = λ j lj b. elim (moved_cases R d r (height C x) h moved apart j lj) [
                  | inl q ↦ (old k).above j lj (omega arith)
                  | inr w ↦ elim w [
                    | inl q ↦ ap (old k).group q.0 ∙ mr
                    | inr q ↦ (old k).above j lj (omega arith)
                  ]
                ];
                below = λ j lj g e. elim (moved_cases R d r (height C x) h moved apart j lj) [
                  | inl q ↦ omega (arith, ap (height C x) q.0)
                  | inr w ↦ elim w [
                    | inl q ↦ absurd (not_r j e q.0)
                    | inr q ↦ omega (arith, (old k).below j lj g e)
                  ]
                ];
              }
          | inr low ↦
              let out_r : over H x P k r ≡ true → ⊥ =
              λ m. let w = higher_donor H x P k r lr m in omega (arith, top.most w.0 w.1 w.3, w.2) in
              let out_d : over H x P k d ≡ true → ⊥ =
              λ m. out_r (donor_brings H x P d r lr top.has (over H x P k) (over_smallest H x P k).fits m) in
              record {
                group = over H x P k;
                tight = tight_moved h moved (over H x P k) (is_false _ out_d ∙ sym (is_false _ out_r)) (over_smallest H x P k).fits;
                above = λ j lj b. elim (moved_cases R d r (height C x) h moved apart j lj) [
                  | inl q ↦ over_holds H x P k j lj (omega arith)
                  | inr w ↦ elim w [
                    | inl q ↦ let none : ⊥ = omega (arith, ap (height C x) q.0) in absurd none
                    | inr q ↦ over_holds H x P k j lj (omega arith)
                  ]
                ];
                below = λ j lj g e. elim (moved_cases R d r (height C x) h moved apart j lj) [
                  | inl q ↦ absurd (out_d (ap (over H x P k) (sym q.0) ∙ g))
                  | inr w ↦ elim w [
                    | inl q ↦ absurd (not_r j e q.0)
                    | inr q ↦ omega (arith, (old k).below j lj (over_within H x P k (old k).group (old k).tight (old k).above j lj g) e)
                  ]
                ];
              }
        ]

pub pulled : LevelWhenNoDonorToTheRigIsMoreThanOneHigher
pulled C R H h r level low d j G ld lj a g e =
    elim (cases_eq r j) [
      | inr ne ↦ level d j G ld lj a g (ne_eqb r j ne)
      | inl q ↦
          let held : G r ≡ true = ap G q ∙ g in
          let lr : r < R = rw q lj in
          let donor : DonorTo H h r d = λ F b. smallest_one R (Tight H h) (only d) F G b a r lr ∙ held in
          omega (arith, low d ld donor, ap h q)
    ]
