-- Groups of rigs: confined, density, tight, smallest tight, closed.
use Rattle.std.specs.Prelude.{◌≡◌, ℕ, ◌*◌, ◌<◌, ◌≤◌, true, ◌≢◌}
use Rattle.levelling.specs.Sums.{Group, only, Inside, inside, sum_over, size}
use Rattle.levelling.specs.Halls.{Hall, Placing}

-- How many pumps are confined to the group G: their whole usable set lies in it.
abbrev pub confined : {C R : ℕ} → Hall C R → Group → ℕ
confined {C} {R} H G = sum_over C (λ c. inside R (H.usable c) G) H.standing

-- How many pumps are placed on the rigs of G, where h r is the height of the rig r.
abbrev pub placed_on : ℕ → (ℕ → ℕ) → Group → ℕ
placed_on R h G = sum_over R G h

-- G is tight: as many pumps are confined to it as are placed on its rigs.
abbrev pub Tight : {C R : ℕ} → Hall C R → (ℕ → ℕ) → Group → Type 0
Tight {C} {R} H h G = confined H G ≡ placed_on R h G

-- G is the smallest group around S, of numbers below n, that is as P says.
pub record Smallest (n : ℕ) (P : Group → Type 0) (S G : Group) : Type 0 where
  pub holds : Inside n S G
  pub fits : P G
  pub least : (G' : Group) → P G' → Inside n S G' → Inside n G G'

-- G is the smallest tight group around the rigs S.
abbrev pub SmallestTight : {C R : ℕ} → Hall C R → (ℕ → ℕ) → Group → Group → Type 0
SmallestTight {C} {R} H h = Smallest R (Tight H h)

-- G is closed: each class with a pump on it has its whole usable set in it.
abbrev pub Closed : {C R : ℕ} → Hall C R → Placing → Group → Type 0
Closed {C} {R} H placed G =
    (c r : ℕ) → c < C → r < R → placed c r ≢ 0 → G r ≡ true → Inside R (H.usable c) G

-- G is closed backwards: it has each rig with a pump that can use a rig of G.
abbrev pub ClosedBackwards : {C R : ℕ} → Hall C R → Placing → Group → Type 0
ClosedBackwards {C} {R} H placed G =
    (c r j : ℕ) → c < C → r < R → j < R → placed c r ≢ 0 → H.usable c j ≡ true → G j ≡ true → G r ≡ true

-- G is what the rig p reaches backwards.
abbrev pub ReachedBackwards : {C R : ℕ} → Hall C R → Placing → ℕ → Group → Type 0
ReachedBackwards {C} {R} H placed p = Smallest R (ClosedBackwards H placed) (only p)

-- A density: so many pumps divided by so many rigs.
pub record Density : Type 0 where
  pub pumps : ℕ
  pub rigs : ℕ

-- Of a group with a rig in it: the pumps confined to it, divided by its rigs.
abbrev pub density : {C R : ℕ} → Hall C R → Group → Density
density {C} {R} H G = record { pumps = confined H G; rigs = size R G }

-- So many pumps a rig.
abbrev pub a_rig : ℕ → Density
a_rig n = record { pumps = n; rigs = 1 }

-- Densities are compared by whole-number products.
abbrev pub NoDenser : Density → Density → Type 0
NoDenser a b = a.pumps * b.rigs ≤ b.pumps * a.rigs
