-- What a rating sheet means, and what is asked of its tables.
use Rattle.std.specs.Prelude.{List, length, Result}
use Rattle.sheet.specs.declared.judging.FillRefusal.{FillRefusal}
use Rattle.sheet.specs.Meaning.{SheetMeaning, Shaped}
use Rattle.sheet.specs.Answers.{FillJudged, NotAsked}
use Rattle.rating.specs.declared.ratings.RigRating.{RigRating}
use Rattle.rating.specs.declared.ratings.PumpRating.{PumpRating}
use Rattle.rating.specs.declared.rated.RatingSheet.{RatingSheet}
use Rattle.rating.specs.Ratings.{rated}

-- What a rating sheet means.
abbrev pub rating_meaning : RatingSheet → SheetMeaning
rating_meaning s = rated s.rigs.now s.pumps.now

-- From 1 to 64 rigs, and from 1 to 64 types.
abbrev pub RatingsJudged : List RigRating → List PumpRating → Result (Unit {0}) FillRefusal → Type 0
RatingsJudged rigs pumps = FillJudged (Shaped (length rigs) (length pumps)) NotAsked NotAsked
