-- What happens to a hall: a pump comes or goes, a rig is left out or let in; and the rigs that can give a pump.
use Rattle.std.specs.Prelude.{◌≡◌, ℕ, ◌+◌, ◌<◌, true, false, ◌≢◌}
use Rattle.levelling.specs.Sums.{Group, only, Inside, Alike, OneMore}
use Rattle.levelling.specs.Halls.{Hall, Placing, Placement, height}
use Rattle.levelling.specs.Groups.{SmallestTight}

-- H' is H with one more pump of the class t.
pub record OnePumpMore {C R : ℕ} (H : Hall C R) (t : ℕ) (H' : Hall C R) : Type 0 where
  pub class : t < C
  pub standing : OneMore C t H.standing H'.standing
  pub usable : (c : ℕ) → c < C → Alike R (H.usable c) (H'.usable c)

-- The rig d is a donor of the class t: the smallest tight group around d holds the usable set of t.
abbrev pub DonorOf : {C R : ℕ} → Hall C R → (ℕ → ℕ) → ℕ → ℕ → Type 0
DonorOf {C} {R} H h t d = (G : Group) → SmallestTight H h (only d) G → Inside R (H.usable t) G

-- The rig d is a donor to the rig r: the smallest tight group around d holds r.
abbrev pub DonorTo : {C R : ℕ} → Hall C R → (ℕ → ℕ) → ℕ → ℕ → Type 0
DonorTo H h r d = (G : Group) → SmallestTight H h (only d) G → G r ≡ true

-- y is a placement in H, and its heights are as P says.
pub record PlacedSo {C R : ℕ} (H : Hall C R) (P : (ℕ → ℕ) → Type 0) (y : Placing) : Type 0 where
  pub placement : Placement H y
  pub heights : P (height C y)

-- Some placement in H has heights as P says, and whatever placement has such heights, they are as Q says.
abbrev pub CanAndAlways : {C R : ℕ} → Hall C R → ((ℕ → ℕ) → Type 0) → ((ℕ → ℕ) → Type 0) → Type 0
CanAndAlways {C} {R} H P Q = ((y : Placing) × PlacedSo H P y) × ((y : Placing) → PlacedSo H P y → Q (height C y))

-- H' is H without the rig r: no class can use it in H', and the other rigs are as in H.
pub record Without {C R : ℕ} (H : Hall C R) (r : ℕ) (H' : Hall C R) : Type 0 where
  pub rig : r < R
  pub out : (c : ℕ) → c < C → H'.usable c r ≡ false
  pub others : (c j : ℕ) → c < C → j < R → j ≢ r → H'.usable c j ≡ H.usable c j

-- H' is H without the rig r and the pumps on it, and x' is what is left of the placement x.
pub record LeftOut {C R : ℕ} (H : Hall C R) (x : Placing) (r : ℕ) (H' : Hall C R) (x' : Placing) : Type 0 where
  pub without : Without H r H'
  pub fewer : (c : ℕ) → c < C → H'.standing c + x c r ≡ H.standing c
  pub bare : (c : ℕ) → c < C → x' c r ≡ 0
  pub stay : (c j : ℕ) → c < C → j < R → j ≢ r → x' c j ≡ x c j

-- H' is H with the rig r let in: H is H' without it, and the same number of pumps of each class stand.
pub record LetIn {C R : ℕ} (H : Hall C R) (r : ℕ) (H' : Hall C R) : Type 0 where
  pub without : Without H' r H
  pub standing : Alike C H.standing H'.standing
