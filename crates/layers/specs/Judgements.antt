-- What is asked of the tables of layers, where m is the meaning of the sheet below.
use Rattle.std.specs.Prelude.{◌≡◌, ℕ, List, length, Result}
use Rattle.sheet.specs.declared.judging.FillRefusal.{FillRefusal}
use Rattle.sheet.specs.Meaning.{SheetMeaning, AllWithin}
use Rattle.sheet.specs.Answers.{FillJudged, NotAsked}
use Rattle.layers.specs.Layers.{EachOnce}

-- One number for each type of the meaning below, and no foreign rig in them.
abbrev pub ApprovalsJudged : SheetMeaning → List ℕ → Result (Unit {0}) FillRefusal → Type 0
ApprovalsJudged m approvals = FillJudged (length approvals ≡ m.types) (AllWithin m.rigs approvals) NotAsked

-- One entry for each rig of the meaning below, and each rig once in them.
abbrev pub OrderJudged : SheetMeaning → List ℕ → Result (Unit {0}) FillRefusal → Type 0
OrderJudged m order = FillJudged (length order ≡ m.rigs) NotAsked (EachOnce m.rigs order)
