-- What is read of a list of sets, and of a pile of three: ratings, approvals on them, and other rig numbers on that.
use Rattle.std.specs.Prelude.{ℕ, ◌⊎◌, List, Ok, Err, Result}
use Rattle.sheet.specs.declared.judging.FillRefusal.{FillRefusal}
use Rattle.sheet.specs.declared.reading.Reading.{Reading}
use Rattle.sheet.specs.Meaning.{listed}
use Rattle.sheet.specs.Lists.{ListJudged}
use Rattle.sheet.specs.Readings.{Reads}
use Rattle.rating.specs.declared.ratings.RigRating.{RigRating}
use Rattle.rating.specs.declared.ratings.PumpRating.{PumpRating}
use Rattle.rating.specs.Ratings.{rated}
use Rattle.rating.specs.Sheets.{RatingsJudged}
use Rattle.layers.specs.Layers.{approved, renumbered}
use Rattle.layers.specs.Judgements.{ApprovalsJudged, OrderJudged}

-- A list that is accepted is read as what it means; else the refusal is answered.
abbrev pub ListRead : ℕ → List ℕ → Result Reading FillRefusal → Type 0
ListRead rigs sets (Ok read) = ListJudged rigs sets (Ok tt) × Reads (listed rigs sets) read
ListRead rigs sets (Err e) = ListJudged rigs sets (Err e)

-- A pile of which all three are accepted is read as what it means; else the first refusal is answered.
abbrev pub PileRead : List RigRating → List PumpRating → (approvals order : List ℕ) → Result Reading FillRefusal → Type 0
PileRead rigs pumps approvals order (Ok read) =
    RatingsJudged rigs pumps (Ok tt)
    × ApprovalsJudged (rated rigs pumps) approvals (Ok tt)
    × OrderJudged (approved approvals (rated rigs pumps)) order (Ok tt)
    × Reads (renumbered order (approved approvals (rated rigs pumps))) read
PileRead rigs pumps approvals order (Err e) =
    RatingsJudged rigs pumps (Err e)
    ⊎ (RatingsJudged rigs pumps (Ok tt) × ApprovalsJudged (rated rigs pumps) approvals (Err e))
    ⊎ (RatingsJudged rigs pumps (Ok tt)
    × ApprovalsJudged (rated rigs pumps) approvals (Ok tt)
    × OrderJudged (approved approvals (rated rigs pumps)) order (Err e))
