-- A line in the making: bytes that join a bounded list, as long as it has places.
-- Only contracts of inner functions speak of these.
use Rattle.std.specs.Prelude.{◌≡◌, ℕ, ◌+◌, ◌<◌, List, ◌++◌, length, Result, MatchResult}
use Rattle.bounded.specs.Entries.{entries, spare}
use Rattle.bounded.specs.declared.Bounded.{Bounded}
use Rattle.bounded.specs.declared.Full.{Full}

-- The bytes stand after what the draft had, in places that were spare.
pub record Extends (before : Bounded ℕ) (bytes : List ℕ) (after : Bounded ℕ) : Type 0 where
  pub held : entries after ≡ entries before ++ bytes
  pub used : length (spare after) + length bytes ≡ length (spare before)

-- The draft was given these bytes, or they are more than it had places for.
abbrev pub Wrote : Bounded ℕ → List ℕ → Bounded ℕ → Result (Unit {0}) Full → Type 0
Wrote before bytes after r = MatchResult r (λ _. Extends before bytes after) (λ _. length (spare before) < length bytes)
