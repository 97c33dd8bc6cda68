use Rattle.std.proofs.Common.{arith, rules}
use Rattle.std.proofs.lemmas.Grind.{common_steps}
use Rattle.std.proofs.lemmas.List.Elements.{recursion_from_All}
use Rattle.script.specs.Format.{NotComma, Commaless}
use Rattle.script.specs.Parts.{Ends}
use Rattle.script.proofs.Cuts.{first_part}
use Rattle.script.proofs.fields.cut_field.Goals as goal

pub returns : goal.returns
returns c =
    let e : Ends c.split_at.result.1.now = grind (arith, common_steps) in
    let w : Commaless c.split_at.result.0.now = recursion_from_All NotComma _ (search rules) in
    record { cut = first_part _ _ _ _ c.split_at.ensures.front c.split_at.ensures.back w e; ends = e; whole = w }
