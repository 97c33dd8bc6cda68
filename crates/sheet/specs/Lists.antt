-- What a list sheet means, and what is asked of its list.
use Rattle.std.specs.Prelude.{ℕ, List, length, Result}
use Rattle.sheet.specs.declared.judging.FillRefusal.{FillRefusal}
use Rattle.sheet.specs.declared.list.ListSheet.{ListSheet}
use Rattle.sheet.specs.Meaning.{SheetMeaning, Shaped, AllWithin, listed}
use Rattle.sheet.specs.Answers.{FillJudged, NotAsked}

-- What a list sheet means.
abbrev pub list_meaning : ListSheet → SheetMeaning
list_meaning s = listed s.rigs s.sets.now

-- From 1 to 64 rigs, from 1 to 64 sets, and no foreign rig in them.
abbrev pub ListJudged : ℕ → List ℕ → Result (Unit {0}) FillRefusal → Type 0
ListJudged rigs sets = FillJudged (Shaped rigs (length sets)) (AllWithin rigs sets) NotAsked
