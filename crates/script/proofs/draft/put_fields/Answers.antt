use Rattle.std.proofs.Common.{ℕ, List, ◌∷◌, ap, ◌∙◌, rules}
use Rattle.std.proofs.lemmas.List.{append-nil}
use Rattle.script.specs.Format.{commas, fields, meaning}
use Rattle.script.specs.declared.command.Command.{Command}
use Rattle.script.proofs.Drafting.{wrote_then, wrote_as, listed_two, listed_rig}
use Rattle.script.proofs.draft.put_fields.Goals as goal

abbrev said : Command → List ℕ
said x = commas (fields (meaning x))

pub returns-in-Hall : goal.returns-in-Hall
returns-in-Hall c = wrote_as _ _ _ _ c.put_numbers.result (ap said c.in-Hall.is) c.put_numbers.ensures

pub returns-in-Add : goal.returns-in-Add
returns-in-Add c = wrote_as _ _ _ _ _ (listed_two _ _ _ (search rules)) c.put_numbers-in-Add.ensures

pub returns-in-Take : goal.returns-in-Take
returns-in-Take c = wrote_as _ _ _ _ _ (listed_rig _ _ (search rules)) c.put_numbers-in-Take.ensures

pub returns-in_ok-put-in-PumpType : goal.returns-in_ok-put-in-PumpType
returns-in_ok-put-in-PumpType c =
    wrote_then _ _ _ _ _ _ (ap said c.in-PumpType.is ∙ ap (λ (xs : List ℕ). 44 ∷ xs) (append-nil _)) c.in_ok-put-in-PumpType.ensures c.put_mask.result c.put_mask.ensures

pub returns-in_ok-put-in-Note : goal.returns-in_ok-put-in-Note
returns-in_ok-put-in-Note c =
    wrote_then _ _ _ _ _ _ (ap said c.in-Note.is ∙ ap (λ (xs : List ℕ). 44 ∷ xs) (append-nil _)) c.in_ok-put-in-Note.ensures c.put_all.result c.put_all.ensures
