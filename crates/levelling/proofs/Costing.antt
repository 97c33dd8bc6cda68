-- Costs of queues. A convex cost is a sum of excesses, each as often as the cost bends there, and a part that all placements
-- of the same pumps share; of the turns waited, every bend is 1.
use Rattle.std.proofs.Common.{◌≡◌, ℕ, zero, suc, ◌+◌, ◌-◌, ◌*◌, ◌<◌, ◌≤◌, Bool, cond, ltb, sym, ap, ◌∙◌, mul-le-mul_left, arith}
use Rattle.levelling.specs.Sums.{sum_to}
use Rattle.levelling.specs.Halls.{Hall, pumps, Placing, Placement, height}
use Rattle.levelling.specs.Levels.{excess, Convex}
use Rattle.levelling.specs.Theorems.{ALevelPlacementIsBestForEveryConvexCost, TurnsWaitedAreTheSumOfTheExcesses}
use Rattle.levelling.proofs.Sums.{sum_le, sum_same, sum_add, sum_zero, sum_swap, sum_term, sum_front, sum_scale, above_next}
use Rattle.levelling.proofs.Cutting.{level_least}

-- one pump more, above k + 1, m times over
weighted : (m n k : ℕ) → m * (suc n - (k + 1)) ≡ m * (n - (k + 1)) + cond (ltb k n) m 0
weighted m n k =
    let e : suc n - (k + 1) ≡ (n - (k + 1)) + cond (ltb k n) 1 0 = omega (arith, above_next n k) in
    rw e (times m (n - (k + 1)) (ltb k n))
  where
    times : (m w : ℕ) (b : Bool) → m * (w + cond b 1 0) ≡ m * w + cond b m 0
    times m w b = grind arith

-- a queue of n, measured above each k + 1 and there weighed by f
abbrev weigh : (ℕ → ℕ) → ℕ → ℕ → ℕ
weigh f K n = sum_to K (λ k. f k * (n - (k + 1)))

weigh_next : (f : ℕ → ℕ) (K n : ℕ) → n ≤ K → weigh f K (suc n) ≡ weigh f K n + sum_to n f
weigh_next f K n l =
    sum_same K _ _ (λ k b. weighted (f k) n k) ∙
    sum_add K (λ k. f k * (n - (k + 1))) (λ k. cond (ltb k n) (f k) 0) ∙
    ap (λ m. weigh f K n + m) (sum_front K n f l)

weigh_none : (f : ℕ → ℕ) (K : ℕ) → weigh f K 0 ≡ 0
weigh_none f K = sum_zero K _ (λ k l. let none : 0 - (k + 1) ≡ 0 = omega arith in rw none (omega arith))

-- summed over the rigs
weigh_all : (f : ℕ → ℕ) (R K : ℕ) (h : ℕ → ℕ) → sum_to R (λ r. weigh f K (h r)) ≡ sum_to K (λ k. f k * excess R h (k + 1))
weigh_all f R K h =
    sum_swap R K (λ r k. f k * (h r - (k + 1))) ∙ sum_same K _ _ (λ k l. sum_scale R (f k) (λ r. h r - (k + 1)))

-- ---- turns waited
ones : (n : ℕ) → sum_to n (λ k. 1) ≡ n
ones zero = omega arith
ones (suc n) = omega (arith, ones n)

queue : (K n : ℕ) → n ≤ K → 2 * weigh (λ k. 1) K n ≡ n * (n - 1)
queue K zero l = omega (arith, weigh_none (λ k. 1) K)
queue K (suc n) l =
    square n (weigh (λ k. 1) K n) (weigh (λ k. 1) K (suc n)) (queue K n (omega arith))
    (omega (arith, weigh_next (λ k. 1) K n (omega arith), ones n))
  where
    square : (n s t : ℕ) → 2 * s ≡ n * (n - 1) → t ≡ s + n → 2 * t ≡ suc n * (suc n - 1)
    square zero s t h e = omega arith
    square (suc n) s t h e =
        let less : suc n - 1 ≡ n = omega arith in
        let last : suc (suc n) - 1 ≡ suc n = omega arith in
        let h' : 2 * s ≡ suc n * n = rw less at h in
        rw last (omega arith)

pub turns_are_excess : TurnsWaitedAreTheSumOfTheExcesses
turns_are_excess R h K most =
    sum_same R _ _ (λ r l. let q = queue K (h r) (most r l) in omega arith) ∙ weigh_all (λ k. 1) R K h ∙
    sum_same K _ _ (λ k l. omega arith)

-- ---- convex costs
-- all pumps are on rigs
total : {C R : ℕ} (H : Hall C R) (x : Placing) → Placement H x → sum_to R (height C x) ≡ pumps H
total {C} {R} H x P = sum_swap R C (λ r c. x c r) ∙ sum_same C _ _ P.each_once

module _ (cost : ℕ → ℕ) (convex : Convex cost) where
  -- by how much the cost bends at k + 1
  bend : ℕ → ℕ
  bend k = (cost k + cost (k + 2)) - (cost (k + 1) + cost (k + 1))

  bends : (k : ℕ) → bend k + (cost (k + 1) + cost (k + 1)) ≡ cost k + cost (k + 2)
  unfolding bend
  bends k = omega (arith, convex k)

  -- what one pump more adds to n
  slope : (n : ℕ) → sum_to n bend + cost n + cost 1 ≡ cost (n + 1) + cost 0
  slope zero = omega arith
  slope (suc n) =
      let next : suc n ≡ n + 1 = omega arith in
      let last : suc n + 1 ≡ n + 2 = omega arith in
      omega (arith, slope n, bends n, ap cost next, ap cost last)

  -- the cost of n pumps: as if each cost what the first does, and the bends
  costs : (K n : ℕ) → n ≤ K → cost n + cost 0 * n ≡ (cost 0 + cost 1 * n) + weigh bend K n
  costs K zero l = omega (arith, weigh_none bend K)
  costs K (suc n) l =
      let next : suc n ≡ n + 1 = omega arith in
      omega (arith, costs K n (omega arith), slope n, ap cost next, weigh_next bend K n (omega arith))

  all_costs : (R K : ℕ) (h : ℕ → ℕ) → ((r : ℕ) → r < R → h r ≤ K) →
      sum_to R (λ r. cost (h r)) + cost 0 * sum_to R h ≡
      sum_to R (λ r. cost 0) + cost 1 * sum_to R h + sum_to K (λ k. bend k * excess R h (k + 1))
  all_costs R K h most =
      omega (
        arith,
        sum_same R _ _ (λ r l. costs K (h r) (most r l)),
        sum_add R (λ r. cost (h r)) (λ r. cost 0 * h r),
        sum_add R (λ r. cost 0 + cost 1 * h r) (λ r. weigh bend K (h r)),
        sum_add R (λ r. cost 0) (λ r. cost 1 * h r),
        sum_scale R (cost 0) h,
        sum_scale R (cost 1) h,
        weigh_all bend R K h,
      )

pub convex_best : ALevelPlacementIsBestForEveryConvexCost
convex_best C R H x y P Q level cost convex =
    let same : sum_to R (height C x) ≡ sum_to R (height C y) = total H x P ∙ sym (total H y Q) in
    let K = pumps H in
    let fewer = sum_le K _ _ (λ k l. mul-le-mul_left (bend cost convex k) (level_least C R H x y P Q level (k + 1))) in
    omega (
      arith,
      all_costs cost convex R K (height C x) (λ r l. omega (arith, sum_term R (height C x) r l, total H x P)),
      all_costs cost convex R K (height C y) (λ r l. omega (arith, sum_term R (height C y) r l, total H y Q)),
      ap (λ n. cost 0 * n) same,
      ap (λ n. cost 1 * n) same,
    )
