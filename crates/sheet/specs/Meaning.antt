-- What a sheet means: which rigs may test which pump type.
use Rattle.std.specs.Prelude.{◌≡◌, ℕ, ◌<◌, ◌≤◌, List, [], ◌∷◌, length, slice_index}
use Rattle.levelling.specs.Sums.{Group}
use Rattle.rigset.specs.Sets.{has, first_rigs, AllBelow, common}

-- The rigs 0 to rigs - 1, the pump types 0 to types - 1, and the rigs on which a pump of the type t may be tested.
pub record SheetMeaning : Type 0 where
  pub rigs : ℕ
  pub types : ℕ
  pub permitted : ℕ → Group

-- From 1 to 64 rigs, and from 1 to 64 types.
abbrev pub Shaped : ℕ → ℕ → Type 0
Shaped rigs types = (1 ≤ rigs) × (rigs ≤ 64) × (1 ≤ types) × (types ≤ 64)

-- A meaning that a sheet may have. A permitted set may be empty.
pub record Lawful (m : SheetMeaning) : Type 0 where
  pub shaped : Shaped m.rigs m.types
  pub within : (t : ℕ) → t < m.types → AllBelow m.rigs (m.permitted t)

-- Two meanings are one: as many rigs, as many types, and the same permitted sets.
pub record SameMeaning (m n : SheetMeaning) : Type 0 where
  pub rigs : m.rigs ≡ n.rigs
  pub types : m.types ≡ n.types
  pub permitted : (t r : ℕ) → t < m.types → m.permitted t r ≡ n.permitted t r

-- No number of the list names a rig that is not below `rigs`.
abbrev pub AllWithin : ℕ → List ℕ → Type 0
AllWithin rigs sets = (t : ℕ) → t < length sets → AllBelow rigs (has (slice_index sets t))

-- What a list of sets means: the set at place t is the permitted set of the type t.
abbrev pub listed : ℕ → List ℕ → SheetMeaning
listed rigs sets = record { rigs = rigs; types = length sets; permitted = λ t. has (slice_index sets t) }

-- One rig, and one type that it may not test.
abbrev pub nothing_permitted : SheetMeaning
nothing_permitted = listed 1 (0 ∷ [])

-- So many rigs and types; the type t is permitted on the rigs that pass its test.
abbrev pub permitting : ℕ → ℕ → (ℕ → Group) → SheetMeaning
permitting rigs types test = record { rigs = rigs; types = types; permitted = λ t. common (first_rigs rigs) (test t) }

-- The meaning m, in which the type t is permitted only on such rigs as pass its test too.
abbrev pub narrowed : (ℕ → Group) → SheetMeaning → SheetMeaning
narrowed test m = record { rigs = m.rigs; types = m.types; permitted = λ t. common (test t) (m.permitted t) }
