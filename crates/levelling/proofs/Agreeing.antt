-- What the highest rigs of a level placement say of every group, and what level placements of the same pumps have in common.
use Rattle.std.proofs.Common.{◌≡◌, ℕ, ◌+◌, ◌-◌, ◌*◌, ◌<◌, ◌≤◌, Bool, true, false, cond, ◌&&◌, eqb, ltb, ◌≢◌, sym, refl, ap, ◌∙◌, inl, inr, mul-le-mul_right, le_antisymm, arith}
use Rattle.std.proofs.lemmas.Bool.{cases_eq, cases_lt, both_ways, ltb-true, lt-ltb, eqb-true, eq-eqb}
use Rattle.std.proofs.lemmas.Bool.Decides.{nat_tests}
use Rattle.levelling.specs.Sums.{Group, Inside, sum_over, size}
use Rattle.levelling.specs.Halls.{Hall, pumps, Placing, Placement, height, SamePumps}
use Rattle.levelling.specs.Groups.{confined, placed_on, Tight, SmallestTight}
use Rattle.levelling.specs.Levels.{Level, no_rig, Cut, excess, Greatest, at_height, Bottleneck, HoldsUsable}
use Rattle.levelling.specs.Theorems.{NoGroupConfinesMoreThanTheGreatestHeightARig, TheBottleneckConfinesMoreThanOneLessARig, RoundedUpNoGroupIsDenserThanTheBottleneck, LevelPlacementsOfTheSamePumpsAgree}
use Rattle.levelling.proofs.Sums.{sum_same, sum_add, sum_zero, sum_even, sum_less, sum_term, sum_some, above_next, over_constant, over_le}
use Rattle.levelling.proofs.Tightness.{stands, confined_at_most, closed_tight, confined_framed, same_framed, placement_widened, same_widened, same_flip, smallest_same, level_same}
use Rattle.levelling.proofs.Reaching.{smallest_around}
use Rattle.levelling.proofs.Cutting.{higher, over, over_smallest, level_cut, level_least, count_most, part_most, part_excess, count_even}

-- the rigs of the greatest height are those higher than one less
module _ (R : ℕ) (h : ℕ → ℕ) (L : ℕ) (top : Greatest R h L) (pos : L ≢ 0) where
  at_higher : Inside R (at_height h L) (higher h (L - 1))
  at_higher r l t = let e = eqb-true (h r) L t in lt-ltb _ _ (omega arith)

  higher_at : Inside R (higher h (L - 1)) (at_height h L)
  higher_at r l t = let b = ltb-true _ _ t in eq-eqb _ _ (omega (arith, top.most r l))

-- ---- the bottleneck
pub at_most : NoGroupConfinesMoreThanTheGreatestHeightARig
at_most C R H x P L top G =
    omega (
      arith,
      confined_at_most H x P G,
      over_le R G (height C x) (λ r. L) (λ r l g. top.most r l),
      over_constant R G L,
    )

-- in a cut's heights, the smallest tight group around the rigs higher than k has no rig lower than k
cut_within : {C R : ℕ} (H : Hall C R) (h : ℕ → ℕ) (k : ℕ) (G : Group) → Cut H h no_rig k → SmallestTight H h (higher h k) G →
    (r : ℕ) → r < R → G r ≡ true → k ≤ h r
cut_within H h k G cut a r l g =
    cut.below r l (a.least cut.group cut.tight (λ j lj s. cut.above j lj (ltb-true _ _ s)) r l g) refl

more_than : {C R : ℕ} (H : Hall C R) (x : Placing) → Placement H x → Level H (height C x) → (k r : ℕ) → r < R → k < height C x r →
    (G : Group) → SmallestTight H (height C x) (higher (height C x) k) G → k * size R G < confined H G
more_than {C} {R} H x P level k r l high G a =
    let less : sum_over R G (λ r. k) < placed_on R (height C x) G =
    sum_less R (λ r. cond (G r) k 0) (λ r. cond (G r) (height C x r) 0) (λ i b. low (G i) (height C x i) (within i b)) r l
    (high_in (G r) (height C x r) (a.holds r l (lt-ltb _ _ high)) high) in
    omega (arith, over_constant R G k, a.fits)
  where
    within : (i : ℕ) → i < R → G i ≡ true → k ≤ height C x i
    within = cut_within H (height C x) k G (level_cut H x P k no_rig level) a

    low : (b : Bool) (n : ℕ) → (b ≡ true → k ≤ n) → cond b k 0 ≤ cond b n 0
    low b n h = grind arith

    high_in : (b : Bool) (n : ℕ) → b ≡ true → k < n → cond b k 0 < cond b n 0
    high_in b n t l = grind arith

-- where a pump stands, some rig is not empty
highest_not_zero : {C R : ℕ} (H : Hall C R) (x : Placing) → Placement H x → pumps H ≢ 0 → (L : ℕ) → Greatest R (height C x) L → L ≢ 0
highest_not_zero {C} {R} H x P some L top z =
    let c = sum_some C H.standing some in
    let r = sum_some R (x c.0) (λ e. c.2 (sym (P.each_once c.0 c.1) ∙ e)) in
    let here = sum_term C (λ c. x c r.0) c.0 c.1 in
    omega (arith, top.most r.0 r.1, r.2)

-- the bottleneck, where the greatest height is not 0
dense : (C R : ℕ) (H : Hall C R) (x : Placing) → Placement H x → Level H (height C x) → (L : ℕ) (M : Group) → Bottleneck H (height C x) L M →
    L ≢ 0 → (L - 1) * size R M < confined H M
dense C R H x P level L M b pos =
    let top = b.greatest in
    more_than H x P level (L - 1) top.rig top.within (omega (arith, top.reached)) M
    (smallest_around R (Tight H (height C x)) (at_height (height C x) L) (higher (height C x) (L - 1)) M
    (at_higher R (height C x) L top pos) (higher_at R (height C x) L top pos) b.smallest)

pub bottleneck_dense : TheBottleneckConfinesMoreThanOneLessARig
bottleneck_dense C R H x P level some L M b = dense C R H x P level L M b (highest_not_zero H x P some L b.greatest)

-- more than L - 1 a rig and at most n a rig: so L is at most n
at_least : (L n p m : ℕ) → L ≢ 0 → (L - 1) * m < p → p ≤ n * m → L ≤ n
at_least L n p m pos more most =
    elim (cases_lt n L) [
      | inr le ↦ le
      | inl less ↦
          let below : n ≤ L - 1 = omega arith in
          let none : ⊥ = omega (arith, mul-le-mul_right m below) in
          absurd none
    ]

pub rounded_up : RoundedUpNoGroupIsDenserThanTheBottleneck
rounded_up C R H x P level L M b n most G =
    elim (cases_eq L 0) [
      | inl z ↦ omega (arith, at_most C R H x P L b.greatest G, ap (λ l. l * size R G) z)
      | inr pos ↦
          let le = at_least L n (confined H M) (size R M) pos (dense C R H x P level L M b pos) (omega arith) in
          omega (arith, at_most C R H x P L b.greatest G, mul-le-mul_right (size R G) le)
    ]

-- ---- how many rigs have each height
excess_next : (R : ℕ) (h : ℕ → ℕ) (k : ℕ) → excess R h k ≡ excess R h (k + 1) + size R (higher h k)
excess_next R h k = sum_same R _ _ (λ r l. above_next (h r) k) ∙ sum_add R (λ r. h r - (k + 1)) (λ r. cond (higher h k r) 1 0)

count_at : (b : Bool) (n k : ℕ) → (b ≡ false → n ≡ 0) → k ≢ 0 →
    cond (ltb (k - 1) n) 1 0 ≡ cond (ltb k n) 1 0 + cond (b && eqb n k) 1 0
count_at b n k h d = grind (arith, nat_tests)

count_zero : (b : Bool) (n : ℕ) → (b ≡ false → n ≡ 0) → cond b 1 0 ≡ cond (ltb 0 n) 1 0 + cond (b && eqb n 0) 1 0
count_zero b n h = grind (arith, nat_tests)

module _ (R : ℕ) (S : Group) (h : ℕ → ℕ) (out : (r : ℕ) → r < R → S r ≡ false → h r ≡ 0) where
  size_at : (k : ℕ) → k ≢ 0 → size R (higher h (k - 1)) ≡ size R (higher h k) + size R (λ r. S r && at_height h k r)
  size_at k d = sum_same R _ _ (λ r l. count_at (S r) (h r) k (out r l) d) ∙ sum_add R _ _

  size_zero : size R S ≡ size R (higher h 0) + size R (λ r. S r && at_height h 0 r)
  size_zero = sum_same R _ _ (λ r l. count_zero (S r) (h r) (out r l)) ∙ sum_add R _ _

same_sizes : (R : ℕ) (S : Group) (h h' : ℕ → ℕ) → ((r : ℕ) → r < R → S r ≡ false → h r ≡ 0) →
    ((r : ℕ) → r < R → S r ≡ false → h' r ≡ 0) → ((k : ℕ) → size R (higher h k) ≡ size R (higher h' k)) →
    (k : ℕ) → size R (λ r. S r && at_height h k r) ≡ size R (λ r. S r && at_height h' k r)
same_sizes R S h h' out out' same k =
    elim (cases_eq k 0) [
      | inl z ↦ rw z (omega (arith, same 0, size_zero R S h out, size_zero R S h' out'))
      | inr d ↦ omega (arith, same k, same (k - 1), size_at R S h out k d, size_at R S h' out' k d)
    ]

-- a rig that is not in service has no pump
shut_bare : {C R : ℕ} (H : Hall C R) (x : Placing) → Placement H x → (S : Group) → HoldsUsable H S →
    (r : ℕ) → r < R → S r ≡ false → height C x r ≡ 0
shut_bare {C} {R} H x P S all r l out =
    sum_zero C _ (λ c lc. elim (cases_eq (x c r) 0) [
      | inl z ↦ z
      | inr d ↦ absurd (both_ways _ out (all c lc (stands H x P c r lc l d) r l (P.on_usable c r lc l d)))
    ])

-- ---- two level placements in one hall
module _ {C R : ℕ} (H : Hall C R) (x y : Placing) (P : Placement H x) (Q : Placement H y)
    (lx : Level H (height C x)) (ly : Level H (height C y)) where
  same_excess : (k : ℕ) → excess R (height C x) k ≡ excess R (height C y) k
  same_excess k = le_antisymm (level_least C R H x y P Q lx k) (level_least C R H y x Q P ly k)

  same_higher : (k : ℕ) → size R (higher (height C x) k) ≡ size R (higher (height C y) k)
  same_higher k =
      omega (arith, same_excess k, same_excess (k + 1), excess_next R (height C x) k, excess_next R (height C y) k)

  same_greatest : (L : ℕ) → Greatest R (height C x) L → Greatest R (height C y) L
  same_greatest L top =
      elim (cases_eq L 0) [
        | inl z ↦ record
            { rig = top.rig; within = top.within; most = most; reached = omega (arith, most top.rig top.within) }
        | inr d ↦
            let some : excess R (height C y) (L - 1) ≢ 0 = λ z.
            omega (arith, same_excess (L - 1), sum_term R (λ r. height C x r - (L - 1)) top.rig top.within, top.reached) in
            let w = sum_some R (λ r. height C y r - (L - 1)) some in
            record { rig = w.0; within = w.1; most = most; reached = omega (arith, most w.0 w.1, w.2) }
      ]
    where
      most : (r : ℕ) → r < R → height C y r ≤ L
      most r l =
          let flat : excess R (height C x) L ≡ 0 = sum_zero R _ (λ i b. omega (arith, top.most i b)) in
          omega (arith, same_excess L, sum_term R (λ r. height C y r - L) r l)

  -- the smallest tight group around the rigs of x higher than k is tight for y, and has the rigs of y higher than k
  shared : (k : ℕ) (G : Group) → SmallestTight H (height C x) (higher (height C x) k) G →
      Tight H (height C y) G × ((r : ℕ) → r < R → k < height C y r → G r ≡ true)
  shared k G a =
      let within = cut_within H (height C x) k G (level_cut H x P k no_rig lx) a in
      let mine = count_even R (height C x) k G (λ r l b. a.holds r l (lt-ltb _ _ b)) within in
      let theirs = count_most R (height C y) k G in
      let part = part_excess R (height C y) k G in
      let most = confined_at_most H y Q G in
      let same = same_excess k in
      let tight : Tight H (height C y) G = omega (arith, a.fits) in
      let all : sum_over R G (λ r. height C y r - k) ≡ excess R (height C y) k = omega (arith, a.fits) in
      (tight, λ r l b. in_group (G r) (height C y r) b (sum_even R _ _ (part_most R (height C y) k G) all r l))
    where
      in_group : (b : Bool) (n : ℕ) → k < n → cond b (n - k) 0 ≡ n - k → b ≡ true
      in_group true n l e = refl
      in_group false n l e = let none : ⊥ = omega arith in absurd none

module _ {C R : ℕ} (H : Hall C R) (x y : Placing) (P : Placement H x) (Q : Placement H y)
    (lx : Level H (height C x)) (ly : Level H (height C y)) where
  same_over : (k : ℕ) (G : Group) → SmallestTight H (height C x) (higher (height C x) k) G → SmallestTight H (height C y) (higher (height C y) k) G
  same_over k G a =
      let s = shared H x y P Q lx ly k G a in
      let b = over_smallest H y Q k in
      let s' = shared H y x Q P ly lx k (over H y Q k) b in
      record {
        holds = λ r l t. s.1 r l (ltb-true _ _ t);
        fits = s.0;
        least = λ G' t i r l g.
            b.least G' t i r l (a.least (over H y Q k) s'.0 (λ j lj h. s'.1 j lj (ltb-true _ _ h)) r l g);
      }

  same_smallest : (L : ℕ) → Greatest R (height C x) L → (G : Group) →
      SmallestTight H (height C x) (at_height (height C x) L) G → SmallestTight H (height C y) (at_height (height C y) L) G
  same_smallest L top G a =
      let top' = same_greatest H x y P Q lx ly L top in
      elim (cases_eq L 0) [
        | inr pos ↦
            smallest_around R (Tight H (height C y)) _ _ G (higher_at R (height C y) L top' pos) (at_higher R (height C y) L top' pos)
            (same_over (L - 1) G
            (smallest_around R (Tight H (height C x)) _ _ G (at_higher R (height C x) L top pos) (higher_at R (height C x) L top pos) a))
        | inl z ↦
            let all : (r : ℕ) → r < R → G r ≡ true = λ r l. a.holds r l (eq-eqb _ _ (omega (arith, top.most r l))) in
            record {
              holds = λ r l t. all r l;
              fits = closed_tight H y Q G (λ c r lc lr some g j lj u. all j lj);
              least = λ G' t i r l g. i r l (eq-eqb _ _ (omega (arith, top'.most r l)));
            }
      ]

-- ---- in two halls
module _ {C R : ℕ} (H H' : Hall C R) (x y : Placing) (same : SamePumps H H') (P : Placement H x) (Q : Placement H' y)
    (lx : Level H (height C x)) (ly : Level H' (height C y)) where
  -- y is a placement of the same pumps in H, and level there
  there : Placement H y
  there = placement_widened H' H y y (same_widened H' H (same_flip H H' same)) (λ c l i b. refl) Q

  level_there : Level H (height C y)
  level_there = level_same H' H (height C y) (height C y) (same_flip H H' same) (λ r l. refl) no_rig ly

  same_bottleneck : (L : ℕ) (M : Group) → Bottleneck H (height C x) L M → Bottleneck H' (height C y) L M
  same_bottleneck L M b = record {
    greatest = same_greatest H x y P there lx level_there L b.greatest;
    smallest =
        smallest_same H H' (height C y) (height C y) same (λ r l. refl) (at_height (height C y) L) (at_height (height C y) L) M M
        (λ r l. refl) (λ r l. refl) (same_smallest H x y P there lx level_there L b.greatest M b.smallest);
  }

  same_counts : (S : Group) → HoldsUsable H S → (k : ℕ) →
      size R (λ r. S r && at_height (height C x) k r) ≡ size R (λ r. S r && at_height (height C y) k r)
  same_counts S all =
      same_sizes R S (height C x) (height C y) (shut_bare H x P S all) (shut_bare H y there S all) (same_higher H x y P there lx level_there)

pub agree : LevelPlacementsOfTheSamePumpsAgree
agree C R H H' x y same P Q lx ly = record {
  counts = same_counts H H' x y same P Q lx ly;
  bottleneck = λ L M. (
    same_bottleneck H H' x y same P Q lx ly L M,
    same_bottleneck H' H y x (same_flip H H' same) Q P ly lx L M,
  );
  confines = λ G. confined_framed H H' (same_framed H H' same) G G (λ r l. refl);
}
