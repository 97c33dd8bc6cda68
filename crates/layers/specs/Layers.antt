-- What a layer makes of the meaning of the sheet below it.
use Rattle.std.specs.Prelude.{◌≡◌, ℕ, ◌-◌, ◌^◌, ◌<◌, List, length, nat_eq, slice_index, slice_index_or}
use Rattle.levelling.specs.Sums.{Group, size}
use Rattle.rigset.specs.Sets.{has}
use Rattle.sheet.specs.Meaning.{SheetMeaning, permitting, narrowed}

-- ---- approval

-- The rigs approved for the type t: those of its number. (Where there is none, as in a layer never filled: every rig.)
abbrev pub approved_for : List ℕ → ℕ → Group
approved_for approvals t = has (slice_index_or approvals t (2 ^ 64 - 1))

-- Of the rigs permitted below, those that are approved.
abbrev pub approved : List ℕ → SheetMeaning → SheetMeaning
approved approvals = narrowed (approved_for approvals)

-- ---- renumber

-- The rig r stands in one of the first n places of the table.
abbrev pub StandsIn : List ℕ → ℕ → ℕ → Type 0
StandsIn order n r = (k : ℕ) × (k < n) × (slice_index order k ≡ r)

-- Each rig stands in exactly one place of the table.
abbrev pub EachOnce : ℕ → List ℕ → Type 0
EachOnce rigs order = (r : ℕ) → r < rigs → size (length order) (λ k. nat_eq (slice_index order k) r) ≡ 1

-- The number that the rig r has below: its entry. (Where there is none, as in a layer never filled: its own number.)
abbrev pub rig_below : List ℕ → ℕ → ℕ
rig_below order r = slice_index_or order r r

-- The rig r is permitted exactly when the rig of its entry is permitted below.
abbrev pub renumbered : List ℕ → SheetMeaning → SheetMeaning
renumbered order m = permitting m.rigs m.types (λ t r. m.permitted t (rig_below order r))
