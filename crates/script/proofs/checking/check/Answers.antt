use Rattle.std.proofs.Common.{◌≡◌, [], ◌∷◌, ◌++◌, length, refl, ap, ◌∙◌, arith, rules}
use Rattle.std.proofs.lemmas.List.{length_push}
use Rattle.std.specs.Iterator.Adapters.{zip_first, zip_second}
use Rattle.bounded.proofs.Refills.{refilled_none, refilled_from, refilled_push}
use Rattle.script.specs.Texts.{lines, lines_left, FaultyOnes, none, passed}
use Rattle.script.proofs.Lining.{lines_fit, told_first, same_ones}
use Rattle.script.proofs.SoFar.{so_far_none, so_far_passed, so_far_added, so_far_all, all_passed}
use Rattle.script.proofs.checking.check.Goals as goal

pub loop-number-init : goal.loop-number-init
loop-number-init c =
    let n : (zip_first c.into_iter-number-iterator.result).start ≡ 1 = search rules in
    let left : lines_left (zip_second c.into_iter-number-iterator.result) ≡ lines c.args.text.now = search rules in (
      refl,
      omega (arith, n, ap length left, lines_fit c.args.text.now, c.if-text-gt-TEXT_MAX.false),
      omega (arith, n),
      ([], refl, refilled_none _ c.clear.ensures.empty, so_far_none FaultyOnes _ _ _ n left),
    )

pub loop-number-preserved-in-Some-faulty_line : goal.loop-number-preserved-in-Some-faulty_line
loop-number-preserved-in-Some-faulty_line c =
    let i = c.loop-number.invariant in
    let s = c.in-Some.ensures.steps in
    let e = c.in-Some-faulty_line.entry in
    let t = c.in-Some-faulty_line.ensures in (
      c.push.ensures.lender ∙ i.0,
      omega (arith, i.1, s.0, ap length s.1),
      omega (arith, i.2, s.0),
      (
        i.3.0 ++ e ∷ [],
        omega (arith, i.3.1, length_push i.3.0 e),
        refilled_push _ _ _ i.3.0 e i.3.2 c.push.result c.push.ensures.cases,
        so_far_added FaultyOnes _ _ _ i.3.0 i.3.3 _ _ s.1 _ (omega (arith, s.0)) (e ∷ []) (told_first _ _ _ e t.0 (omega (arith, t.1, s.0))),
      ),
    )

pub loop-number-preserved : goal.loop-number-preserved
loop-number-preserved c =
    let i = c.loop-number.invariant in
    let s = c.in-Some.ensures.steps in
    let t = c.in_default.ensures in (
      i.0,
      omega (arith, i.1, s.0, ap length s.1),
      omega (arith, i.2, s.0),
      (
        i.3.0,
        i.3.1,
        i.3.2,
        so_far_passed FaultyOnes _ _ _ i.3.0 i.3.3 _ _ s.1 _ (omega (arith, s.0)) (λ more u. passed t.0 t.1 u),
      ),
    )

pub returns-clause-cases : goal.returns-clause-cases
returns-clause-cases c =
    let i = c.loop-number.invariant in
    let t = so_far_all FaultyOnes _ _ _ i.3.0 i.3.3 (all_passed _ _ i.1 c.in-None.ensures.steps) none in
    record {
      within = c.if-text-gt-TEXT_MAX.false;
      all = i.3.0;
      faulty = t;
      alone = λ es u. same_ones u t;
      count = i.3.1;
      listed = refilled_from c.args.faults.now c.clear.new.self c.loop-number.faults i.3.0 c.clear.ensures.untouched i.3.2;
    }
