-- Which rig can test which pump, by their ratings.
use Rattle.std.specs.Prelude.{ℕ, Bool, ◌&&◌, List, length, nat_le, slice_index_or}
use Rattle.sheet.specs.Meaning.{SheetMeaning, permitting}
use Rattle.rating.specs.declared.ratings.RigRating.{RigRating}
use Rattle.rating.specs.declared.ratings.PumpRating.{PumpRating}

-- The pump's pressure and flow do not exceed the rig's, and its speed is from the rig's slowest to its fastest, ends included.
abbrev pub suits : RigRating → PumpRating → Bool
suits rig pump =
    nat_le pump.pressure rig.pressure
    && (nat_le pump.flow rig.flow && (nat_le rig.slowest pump.speed && nat_le pump.speed rig.fastest))

-- The ratings of the rig r, and zeros past the last rig.
abbrev pub rig_at : List RigRating → ℕ → RigRating
rig_at rigs r = slice_index_or rigs r (record { pressure = 0; flow = 0; slowest = 0; fastest = 0 })

-- The ratings of the pumps of the type t, and zeros past the last type.
abbrev pub pump_at : List PumpRating → ℕ → PumpRating
pump_at pumps t = slice_index_or pumps t (record { pressure = 0; flow = 0; speed = 0 })

-- What tables of ratings mean: a type may go to the rigs of the table that suit its pumps.
abbrev pub rated : List RigRating → List PumpRating → SheetMeaning
rated rigs pumps = permitting (length rigs) (length pumps) (λ t r. suits (rig_at rigs r) (pump_at pumps t))
