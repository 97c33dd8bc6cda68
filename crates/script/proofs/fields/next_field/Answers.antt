use Rattle.std.proofs.Common.{◌<◌, length, ◌∙◌, rules}
use Rattle.script.proofs.Cuts.{after_is}
use Rattle.script.proofs.fields.next_field.Goals as goal

pub returns : goal.returns
returns c =
    let h : 0 < length c.args.rest.now = search rules in
    record { parts = after_is _ h ∙ c.cut_field.ensures.cut; ends = c.cut_field.ensures.ends; whole = c.cut_field.ensures.whole }
