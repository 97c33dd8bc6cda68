use Rattle.std.proofs.Common.{◌≡◌, ℕ, List, ◌∷◌, length, sym, ◌∙◌, rules, ◌≢◌}
use Rattle.script.specs.Format.{name, shape, WellFormed}
use Rattle.script.specs.Parts.{parts, Ends, after}
use Rattle.script.specs.declared.command.Word.{Word}
use Rattle.script.proofs.Cuts.{length_after}
use Rattle.script.proofs.Judgement.{unknown, miscounted, judged_fields}
use Rattle.script.proofs.reading.judge.Goals as goal

pub returns-in_err-word-clause-judged : goal.returns-in_err-word-clause-judged
returns-in_err-word-clause-judged c =
    let f : WellFormed c.args.line.now c.in_ok-front.front.now = search rules in
    let n : (w : Word) (fs : List (List ℕ)) → parts c.in_ok-front.front.now ≢ name w ∷ fs = search rules in
    search (rules, unknown _ _ f n)

pub returns-then-count_commas-arity-clause-judged : goal.returns-then-count_commas-arity-clause-judged
returns-then-count_commas-arity-clause-judged c =
    let f : WellFormed c.args.line.now c.in_ok-front.front.now = search rules in
    let t : Ends c.in_ok-word.rest.now × (parts c.in_ok-front.front.now ≡ name c.in_ok-word.word ∷ after c.in_ok-word.rest.now) = search rules in
    miscounted _ _ f _ _ t.1
    (λ n. c.if-count_commas-arity.true (c.count_commas.ensures ∙ sym (length_after c.in_ok-word.rest.now t.0) ∙ n ∙ sym c.arity.ensures))

pub read_fields-requires : goal.read_fields-requires
read_fields-requires c =
    let e : Ends c.in_ok-word.rest.now = search rules in
    length_after c.in_ok-word.rest.now e ∙ sym c.count_commas.ensures ∙ c.if-count_commas-arity.false ∙ c.arity.ensures

pub returns : goal.returns
returns c =
    let f : WellFormed c.args.line.now c.in_ok-front.front.now = search rules in
    let t : Ends c.in_ok-word.rest.now × (parts c.in_ok-front.front.now ≡ name c.in_ok-word.word ∷ after c.in_ok-word.rest.now) = search rules in
    let n : length (after c.in_ok-word.rest.now) ≡ length (shape c.in_ok-word.word) = length_after c.in_ok-word.rest.now t.0 ∙ sym c.count_commas.ensures ∙ c.if-count_commas-arity.false ∙ c.arity.ensures in
    let j = judged_fields _ _ f _ _ t.1 n c.read_fields.result c.read_fields.ensures in
    record { judged = j.0; tidy = j.1 }
