-- What a bounded list holds.
use Rattle.std.specs.Prelude.{◌≡◌, ◌<◌, List, [], ◌∷◌, ◌++◌, length, take, drop}
use Rattle.bounded.specs.declared.Bounded.{Bounded}

-- The entries, in the order in which they joined.
abbrev pub entries : {E : Type 0} → Bounded E → List E
entries b = take b.used b.places.now

-- What stands in the places after the last entry.
abbrev pub spare : {E : Type 0} → Bounded E → List E
spare b = drop b.used b.places.now

-- The entry x takes the first spare place, after the last entry; nothing else changes.
pub record Joins {E : Type 0} (before : Bounded E) (x : E) (after : Bounded E) : Type 0 where
  pub room : 0 < length (spare before)
  pub held : entries after ≡ entries before ++ x ∷ []
  pub rest : spare after ≡ drop 1 (spare before)

-- The list is as it was.
pub record Stays {E : Type 0} (before after : Bounded E) : Type 0 where
  pub count : after.used ≡ before.used
  pub held : after.places.now ≡ before.places.now

-- The list was emptied and then given these entries: it has the first ones, as far as its places go,
-- and the places after them stand as they did.
pub record Refilled {E : Type 0} (before : Bounded E) (es : List E) (after : Bounded E) : Type 0 where
  pub held : entries after ≡ take (length before.places.now) es
  pub rest : spare after ≡ drop (length es) before.places.now
