use Rattle.std.proofs.Common.{◌≡◌, ℕ, ◌+◌, List, [], ◌∷◌, ◌++◌, length, sym, subst, ap, ◌∙◌, arith, rules}
use Rattle.std.proofs.lemmas.List.{append_assoc, append-nil}
use Rattle.std.specs.Iterator.Adapters.{zip_first, zip_second}
use Rattle.script.specs.Texts.{lines, lines_left}
use Rattle.script.specs.Verdicts.{Verdict, Judged}
use Rattle.script.proofs.Lining.{lines_fit}
use Rattle.script.proofs.SoFar.{so_far_none, so_far_added, so_far_all, all_passed}
use Rattle.readback.specs.Telling.{line_told, LinesTold, none, next}
use Rattle.readback.proofs.telling.tell_lines.Goals as goal

told_next : (n m : ℕ) → n ≡ m → {l : List ℕ} {ls : List (List ℕ)} (v : Verdict) → Judged l v → (more : List ℕ) → LinesTold (m + 1) ls more → LinesTold m (l ∷ ls) (line_told n v ++ more)
told_next n m e {l} {ls} v j more t = subst (λ (k : ℕ). LinesTold m (l ∷ ls) (line_told k v ++ more)) (sym e) (next v j t)

pub loop-number-init : goal.loop-number-init
loop-number-init c =
    let n : (zip_first c.into_iter-number-iterator.result).start ≡ 1 = search rules in
    let left : lines_left (zip_second c.into_iter-number-iterator.result) ≡ lines c.args.text.now = search rules in (
      omega (arith, n, ap length left, lines_fit c.args.text.now, c.requires),
      ([], simp append-nil, so_far_none LinesTold _ _ _ n left),
    )

pub loop-number-preserved : goal.loop-number-preserved
loop-number-preserved c =
    let i = c.loop-number.invariant in
    let s = c.in-Some.ensures.steps in
    let t = c.in_ok-tell_line.ensures in
    let new = line_told c.in-Some.number t.0 in (
      omega (arith, i.0, s.0, ap length s.1),
      (
        i.1.0 ++ new,
        t.2 ∙ ap (λ (xs : List ℕ). xs ++ new) i.1.1 ∙ append_assoc _ i.1.0 new,
        so_far_added LinesTold _ _ _ i.1.0 i.1.2 _ _ s.1 _ (omega (arith, s.0)) new (told_next _ _ s.0.0 t.0 t.1),
      ),
    )

pub returns : goal.returns
returns c =
    let i = c.loop-number.invariant in
    (i.1.0, so_far_all LinesTold _ _ _ i.1.0 i.1.2 (all_passed _ _ i.0 c.in-None.ensures.steps) none, i.1.1)
