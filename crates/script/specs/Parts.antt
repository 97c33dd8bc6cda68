-- A line's bytes as reading goes through them: what follows the word, and what follows each field.
-- Only contracts of inner functions speak of these.
use Rattle.std.specs.Prelude.{◌≡◌, ℕ, List, [], ◌∷◌, ◌==◌}
use Rattle.std.specs.List.{slice_split}
use Rattle.script.specs.Format.{Form, Meaning, AllFit, shape, fields, Good, FirstBad}
use Rattle.script.specs.declared.command.Word.{Word}
use Rattle.script.specs.declared.faults.LineFault.TheVariants.{BadField}
use Rattle.script.specs.declared.faults.LineFault.{LineFault}

-- Bytes cut at their commas.
abbrev pub parts : List ℕ → List (List ℕ)
parts bs = slice_split (λ b. b == 44) bs

-- What follows a whole word or field: nothing, or a comma and more.
abbrev pub Ends : List ℕ → Type 0
Ends [] = Unit {0}
Ends (b ∷ bs) = b ≡ 44

-- The fields in what follows, which is bytes that satisfy Ends.
abbrev pub after : List ℕ → List (List ℕ)
after [] = []
after (b ∷ bs) = parts bs

-- The fault names the leftmost of these fields that is not good.
pub record Misfit (ss : List Form) (fs : List (List ℕ)) (e : LineFault) : Type 0 where
  pub field : ℕ
  pub names : e ≡ BadField field
  pub leftmost : FirstBad ss fs 2 field

-- The command has this word and these fields, with values in range.
pub record Says (w : Word) (fs : List (List ℕ)) (m : Meaning) : Type 0 where
  pub same_word : m.0 ≡ w
  pub same_fields : fields m ≡ fs
  pub fit : AllFit (shape m.0) m.1

-- The first of these fields is not good.
abbrev pub BadAt : Form → List (List ℕ) → Type 0
BadAt s [] = ⊥
BadAt s (f ∷ fs) = Good s f → ⊥
