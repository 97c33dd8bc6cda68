use Rattle.std.proofs.Common.{length, drop, arith, rules}
use Rattle.script.specs.Parts.{Ends}
use Rattle.script.proofs.Names.{front_fits, word_found, word_stands}
use Rattle.script.proofs.reading.read_word.Goals as goal

pub returns-in_err-word : goal.returns-in_err-word
returns-in_err-word c =
    rw c.from_residual.ensures
    (λ w fs e. c.in_err-word.ensures w
    (word_stands c.args.front.now _ c.min.result _ fs w (λ l s. omega (arith, c.min.ensures)) c.cut_field.ensures.cut e).0)

pub split_at-requires : goal.split_at-requires
split_at-requires c = front_fits c.args.front.now _ c.min.result _ c.cut_field.ensures.cut

pub returns-in_default : goal.returns-in_default
returns-in_default c w fs e =
    let h = (word_stands c.args.front.now _ c.min.result _ fs w (λ l s. omega (arith, c.min.ensures)) c.cut_field.ensures.cut e).1 in
    search rules

pub returns-in-empty : goal.returns-in-empty
returns-in-empty c =
    let h : Ends (drop (length c.cut_field.result.0.now) c.args.front.now) = search rules in
    rw c.split_at.ensures.back (h, word_found c.args.front.now _ c.min.result _ c.in_ok-word.word c.cut_field.ensures.cut c.in_ok-word.ensures h)
