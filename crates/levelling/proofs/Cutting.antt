-- Level is a cut at every height, and a cut at k shows that no placement has less above k.
use Rattle.std.proofs.Common.{◌≡◌, ℕ, ◌+◌, ◌-◌, ◌<◌, ◌≤◌, Bool, true, cond, ltb, refl, ◌∙◌, inl, inr, arith}
use Rattle.std.proofs.lemmas.Bool.{cases_eq, eqb-true, ltb-true, lt-ltb}
use Rattle.levelling.specs.Sums.{Group, only, Inside, sum_over}
use Rattle.levelling.specs.Halls.{Hall, Placing, Placement, height}
use Rattle.levelling.specs.Groups.{confined, placed_on, Tight, SmallestTight}
use Rattle.levelling.specs.Levels.{LevelBut, no_rig, Cut, excess}
use Rattle.levelling.specs.Theorems.{LevelIsACutAtEveryHeight, ALevelPlacementHasTheLeastExcess, MoreUsableRigsNeverMeanMoreExcess}
use Rattle.levelling.proofs.Sums.{sum_le, sum_same, sum_add}
use Rattle.levelling.proofs.Tightness.{confined_at_most, placement_widened}
use Rattle.levelling.proofs.Reaching.{around, around_smallest, around_from}

-- the rigs higher than k
abbrev pub higher : (ℕ → ℕ) → ℕ → Group
higher h k r = ltb k (h r)

module _ {C R : ℕ} (H : Hall C R) (x : Placing) (P : Placement H x) (k : ℕ) where
  -- the smallest tight group around the rigs higher than k
  pub over : Group
  over = around H x (higher (height C x) k)

  pub over_smallest : SmallestTight H (height C x) (higher (height C x) k) over
  unfolding over
  over_smallest = around_smallest H x P (higher (height C x) k)

  pub over_holds : (r : ℕ) → r < R → k < height C x r → over r ≡ true
  over_holds r l b = over_smallest.holds r l (lt-ltb _ _ b)

  -- it lies in each tight group that has the rigs higher than k
  pub over_within : (G : Group) → Tight H (height C x) G → ((r : ℕ) → r < R → k < height C x r → G r ≡ true) → Inside R over G
  over_within G t above = over_smallest.least G t (λ r l s. above r l (ltb-true _ _ s))

  -- each of its rigs is in the smallest tight group around a rig higher than k
  pub over_from : (j : ℕ) → j < R → over j ≡ true →
      (r : ℕ) × (r < R) × (k < height C x r) × (around H x (only r) j ≡ true)
  unfolding over
  over_from j l m =
      let w = around_from H x P (higher (height C x) k) j l m in
      (w.0, w.1, ltb-true _ _ w.2, w.3)

  pub level_cut : (E : Group) → LevelBut H (height C x) E → Cut H (height C x) E k
  level_cut E level = record {
    group = over;
    tight = over_smallest.fits;
    above = over_holds;
    below = λ j l m e.
        let w = over_from j l m in
        let near = level w.0 j (around H x (only w.0)) w.1 l (around_smallest H x P (only w.0)) w.3 e in
        omega (arith, w.2);
  }

pub cuts_level : {C R : ℕ} (H : Hall C R) (h : ℕ → ℕ) (E : Group) → ((k : ℕ) → Cut H h E k) → LevelBut H h E
cuts_level {C} {R} H h E cuts r j G lr lj a g e =
    elim (cases_eq (h r) 0) [
      | inl z ↦ omega arith
      | inr d ↦
          let cut = cuts (h r - 1) in
          let held : cut.group r ≡ true = cut.above r lr (omega arith) in
          let also = a.least cut.group cut.tight (λ i l s. rw (← eqb-true r i s) held) j lj g in
          omega (arith, cut.below j lj also e)
    ]

pub level_is_cuts : LevelIsACutAtEveryHeight
level_is_cuts C R H x P E = (λ level k. level_cut H x P k E level, cuts_level H (height C x) E)

-- ---- counting the pumps of a group by k for each rig and what is above k
module _ (R : ℕ) (h : ℕ → ℕ) (k : ℕ) (G : Group) where
  pub count_most : placed_on R h G ≤ sum_over R G (λ r. h r - k) + sum_over R G (λ r. k)
  count_most =
      rw (← sum_add R (λ r. cond (G r) (h r - k) 0) (λ r. cond (G r) k 0)) (sum_le R _ _ (λ r l. at (G r) (h r)))
    where
      at : (b : Bool) (n : ℕ) → cond b n 0 ≤ cond b (n - k) 0 + cond b k 0
      at b n = grind arith

  pub part_most : (r : ℕ) → r < R → cond (G r) (h r - k) 0 ≤ h r - k
  part_most r l = at (G r) (h r)
    where
      at : (b : Bool) (n : ℕ) → cond b (n - k) 0 ≤ n - k
      at b n = grind arith

  -- the part of the excess that stands on G
  pub part_excess : sum_over R G (λ r. h r - k) ≤ excess R h k
  part_excess = sum_le R _ _ part_most

  -- of a group that has every rig higher than k and none lower than k
  pub count_even : ((r : ℕ) → r < R → k < h r → G r ≡ true) → ((r : ℕ) → r < R → G r ≡ true → k ≤ h r) →
      placed_on R h G ≡ excess R h k + sum_over R G (λ r. k)
  count_even above below =
      sum_same R _ _ (λ r l. at (G r) (h r) (above r l) (below r l)) ∙ sum_add R (λ r. h r - k) (λ r. cond (G r) k 0)
    where
      at : (b : Bool) (n : ℕ) → (k < n → b ≡ true) → (b ≡ true → k ≤ n) → cond b n 0 ≡ (n - k) + cond b k 0
      at b n above below = grind arith

-- heights of a placement of the same pumps have no less above k than heights with a cut at k
cut_least : {C R : ℕ} (H : Hall C R) (h h' : ℕ → ℕ) (k : ℕ) → Cut H h no_rig k →
    ((G : Group) → confined H G ≤ placed_on R h' G) → excess R h k ≤ excess R h' k
cut_least {C} {R} H h h' k cut most =
    omega (
      arith,
      cut.tight,
      most cut.group,
      count_even R h k cut.group cut.above (λ r l m. cut.below r l m refl),
      count_most R h' k cut.group,
      part_excess R h' k cut.group,
    )

pub level_least : ALevelPlacementHasTheLeastExcess
level_least C R H x y P Q level k =
    cut_least H (height C x) (height C y) k (level_cut H x P k no_rig level) (confined_at_most H y Q)

pub wider_least : MoreUsableRigsNeverMeanMoreExcess
wider_least C R H H' x y wide P Q level k = level_least C R H' y x Q (placement_widened H H' x x wide (λ c l i b. refl) P) level k
