-- What a layer means.
use Rattle.sheet.specs.Meaning.{SheetMeaning}
use Rattle.layers.specs.declared.layer.Layer.{Layer}

-- What its table makes of the meaning of the sheet below; `meaning` tells what the sheet below means, and `changed` what a
-- table makes of a meaning.
abbrev pub layer_meaning : {S T : Type 0} → (S → SheetMeaning) → (T → SheetMeaning → SheetMeaning) → Layer S T → SheetMeaning
layer_meaning meaning changed l = changed l.table (meaning l.below)
