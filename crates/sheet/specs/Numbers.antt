-- The numbers by which refusals are told.
use Rattle.std.specs.Prelude.{ℕ}
use Rattle.sheet.specs.declared.judging.FillRefusal.{FillRefusal}
use Rattle.sheet.specs.declared.judging.FillRefusal.TheVariants.{BadShape, ForeignRig, NotEachRigOnce}
use Rattle.sheet.specs.declared.interface.PermittedRefusal.{PermittedRefusal}
use Rattle.sheet.specs.declared.interface.PermittedRefusal.TheVariants.{NoSuchType}

-- Of tables.
abbrev pub fill_number : FillRefusal → ℕ
fill_number BadShape = 1
fill_number ForeignRig = 2
fill_number NotEachRigOnce = 3

-- Of a question.
abbrev pub permitted_number : PermittedRefusal → ℕ
permitted_number NoSuchType = 4
