-- What was read of a whole sheet.
use Rattle.std.specs.Prelude.{◌≡◌, ℕ, ◌<◌, ◌≤◌, List, slice_index_or}
use Rattle.levelling.specs.Levels.{no_rig}
use Rattle.rigset.specs.declared.set.RigSet.{RigSet}
use Rattle.rigset.specs.Sets.{RigsAre}
use Rattle.sheet.specs.Meaning.{SheetMeaning}
use Rattle.sheet.specs.declared.reading.Reading.{Reading}

-- The set at a place, and the empty set past the last place.
abbrev pub set_at : List RigSet → ℕ → RigSet
set_at sets t = slice_index_or sets t (record { word = 0 })

-- The set is the permitted set of the type t, or the empty set if t is no type.
pub record PermittedOf (m : SheetMeaning) (t : ℕ) (set : RigSet) : Type 0 where
  pub permitted : t < m.types → RigsAre set.word (m.permitted t)
  pub spare : m.types ≤ t → RigsAre set.word no_rig

-- The reading has the sheet's number of rigs, its number of types, the permitted set of each type, and for numbers that
-- are no type the empty set.
pub record Reads (m : SheetMeaning) (read : Reading) : Type 0 where
  pub rigs : read.rigs ≡ m.rigs
  pub types : read.types ≡ m.types
  pub sets : (t : ℕ) → PermittedOf m t (set_at read.permitted t)
