-- Level, the excess, what is highest and lowest, and what the heights of two halls have in common.
use Rattle.std.specs.Prelude.{◌≡◌, ℕ, ◌+◌, ◌-◌, ◌*◌, ◌/◌, ◌<◌, ◌≤◌, true, false, ◌&&◌, ◌≢◌, ◌↔◌, ◌==◌}
use Rattle.levelling.specs.Sums.{Group, only, Inside, Alike, sum_to, size}
use Rattle.levelling.specs.Halls.{Hall, Placing, Placement, height}
use Rattle.levelling.specs.Groups.{confined, Tight, SmallestTight}

-- Level but for the rigs of E: no rig outside E in the smallest tight group around any rig stands more than one lower
-- than that rig. (Where h are the heights of a placement, every rig has such a group.)
abbrev pub LevelBut : {C R : ℕ} → Hall C R → (ℕ → ℕ) → Group → Type 0
LevelBut {C} {R} H h E =
    (r j : ℕ) (G : Group) → r < R → j < R → SmallestTight H h (only r) G → G j ≡ true → E j ≡ false → h r ≤ h j + 1

-- No rig.
abbrev pub no_rig : Group
no_rig r = false

-- Level: no rig in the smallest tight group around any rig stands more than one lower than that rig.
abbrev pub Level : {C R : ℕ} → Hall C R → (ℕ → ℕ) → Type 0
Level H h = LevelBut H h no_rig

-- The certificate at k: a tight group that holds every rig higher than k and, but for the rigs of E, none lower than k.
pub record Cut {C R : ℕ} (H : Hall C R) (h : ℕ → ℕ) (E : Group) (k : ℕ) : Type 0 where
  pub group : Group
  pub tight : Tight H h group
  pub above : (r : ℕ) → r < R → k < h r → group r ≡ true
  pub below : (r : ℕ) → r < R → group r ≡ true → E r ≡ false → k ≤ h r

-- The excess above k: the sum of height - k over the rigs higher than k. (Where h r ≤ k, h r - k is 0.)
abbrev pub excess : ℕ → (ℕ → ℕ) → ℕ → ℕ
excess R h k = sum_to R (λ r. h r - k)

-- The turns that pumps wait: in a queue of n the first waits none and the last n - 1, in all half of n * (n - 1).
abbrev pub turns_waited : ℕ → (ℕ → ℕ) → ℕ
turns_waited R h = sum_to R (λ r. h r * (h r - 1) / 2)

-- A cost of a queue of n pumps to which each further pump adds no less than the one before it.
abbrev pub Convex : (ℕ → ℕ) → Type 0
Convex cost = (n : ℕ) → cost (n + 1) + cost (n + 1) ≤ cost n + cost (n + 2)

-- L is the greatest height.
pub record Greatest (R : ℕ) (h : ℕ → ℕ) (L : ℕ) : Type 0 where
  pub rig : ℕ
  pub within : rig < R
  pub reached : h rig ≡ L
  pub most : (r : ℕ) → r < R → h r ≤ L

-- The rigs of height k.
abbrev pub at_height : (ℕ → ℕ) → ℕ → Group
at_height h k r = h r == k

-- L is the greatest height, and M the smallest tight group around the rigs of that height.
pub record Bottleneck {C R : ℕ} (H : Hall C R) (h : ℕ → ℕ) (L : ℕ) (M : Group) : Type 0 where
  pub greatest : Greatest R h L
  pub smallest : SmallestTight H h (at_height h L) M

-- The rig r is a lowest one of those of which P holds.
pub record Lowest (R : ℕ) (h : ℕ → ℕ) (P : ℕ → Type 0) (r : ℕ) : Type 0 where
  pub within : r < R
  pub has : P r
  pub least : (j : ℕ) → j < R → P j → h r ≤ h j

-- The rig r is a highest one of those of which P holds.
pub record Highest (R : ℕ) (h : ℕ → ℕ) (P : ℕ → Type 0) (r : ℕ) : Type 0 where
  pub within : r < R
  pub has : P r
  pub most : (j : ℕ) → j < R → P j → h j ≤ h r

-- Every rig that a standing pump can use is in S, as when S is all rigs, or those in service.
abbrev pub HoldsUsable : {C R : ℕ} → Hall C R → Group → Type 0
HoldsUsable {C} {R} H S = (c : ℕ) → c < C → H.standing c ≢ 0 → Inside R (H.usable c) S

-- Heights in two halls agree: on how many rigs have each height, among all rigs or any that hold the usable ones; on the
-- greatest height and the smallest tight group around the rigs of that height; and on how many pumps are confined to
-- it, as to any group.
pub record Agree {C R : ℕ} (H H' : Hall C R) (h h' : ℕ → ℕ) : Type 0 where
  pub counts : (S : Group) → HoldsUsable H S → (k : ℕ) → size R (λ r. S r && at_height h k r) ≡ size R (λ r. S r && at_height h' k r)
  pub bottleneck : (L : ℕ) (M : Group) → Bottleneck H h L M ↔ Bottleneck H' h' L M
  pub confines : (G : Group) → confined H G ≡ confined H' G

-- The placement x in the larger frame of H' is one in H too, with the same heights, and none on the rigs that H has not;
-- as many pumps are confined to each group, and it is level in both or in neither.
pub record SameInBoth {C R C' R' : ℕ} (H : Hall C R) (H' : Hall C' R') (x : Placing) : Type 0 where
  pub placement : Placement H x
  pub heights : Alike R (height C x) (height C' x)
  pub no_height : (r : ℕ) → R ≤ r → r < R' → height C' x r ≡ 0
  pub confines : (G : Group) → confined H G ≡ confined H' G
  pub level : Level H (height C x) ↔ Level H' (height C' x)
