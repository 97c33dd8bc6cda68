-- Sets of rigs as numbers: rig r counts 2 to the power r.
use Rattle.std.specs.Prelude.{◌≡◌, ℕ, ◌/◌, ◌%◌, ◌^◌, ◌<◌, ◌≤◌, true, not, ◌&&◌, ◌||◌, Option, MatchOption, ◌==◌, nat_lt}
use Rattle.levelling.specs.Sums.{Group}
use Rattle.levelling.specs.Levels.{no_rig}

-- How many rigs a set has room for.
unfoldable pub limit : ℕ
limit = 64

-- Whether the rig r is in the set m: the binary digit of m that counts 2 to the power r is 1.
unfoldable pub has : ℕ → Group
has m r = m / 2 ^ r % 2 == 1

-- The rigs of the set m are exactly those of the group G.
abbrev pub RigsAre : ℕ → Group → Type 0
RigsAre m G = (r : ℕ) → has m r ≡ G r

-- The rig n alone; a number of 64 or more is no rig.
abbrev pub rig_numbered : ℕ → Group
rig_numbered n r = r == n && nat_lt n 64

-- The rigs 0 to n - 1; a number of 64 or more is no rig.
abbrev pub first_rigs : ℕ → Group
first_rigs n r = nat_lt r n && nat_lt r 64

-- Every rig of G is below n.
abbrev pub AllBelow : ℕ → Group → Type 0
AllBelow n G = (r : ℕ) → G r ≡ true → r < n

-- The rigs of F or of G, or of both.
abbrev pub either : Group → Group → Group
either F G r = F r || G r

-- The rigs of both F and G.
abbrev pub common : Group → Group → Group
common F G r = F r && G r

-- The rigs of G but for n.
abbrev pub without : Group → ℕ → Group
without G n r = G r && not (r == n)

-- r is the lowest rig of G, by its number.
pub record LowestOf (G : Group) (r : ℕ) : Type 0 where
  pub within : r < 64
  pub member : G r ≡ true
  pub least : (j : ℕ) → G j ≡ true → r ≤ j

-- The lowest rig of the set m is taken out, and n is left; or m is empty, and stays.
abbrev pub TakesLowest : ℕ → Option ℕ → ℕ → Type 0
TakesLowest m taken n =
    MatchOption taken (RigsAre m no_rig × (n ≡ m)) (λ r. LowestOf (has m) r × RigsAre n (without (has m) r))
