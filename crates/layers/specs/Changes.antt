-- What a layer may make of the meaning of the sheet below.
use Rattle.std.specs.Prelude.{◌≡◌}
use Rattle.sheet.specs.Meaning.{SheetMeaning, Lawful, SameMeaning}

-- Each meaning that a sheet may have stays as it is.
abbrev pub ChangesNothing : (SheetMeaning → SheetMeaning) → Type 0
ChangesNothing change = (m : SheetMeaning) → Lawful m → SameMeaning (change m) m

-- There are as many rigs and types as below, and the result is again a meaning that a sheet may have.
pub record KeepsItsShape (change : SheetMeaning → SheetMeaning) : Type 0 where
  pub rigs : (m : SheetMeaning) → (change m).rigs ≡ m.rigs
  pub types : (m : SheetMeaning) → (change m).types ≡ m.types
  pub lawful : (m : SheetMeaning) → Lawful m → Lawful (change m)
