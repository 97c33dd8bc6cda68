use Rattle.std.proofs.Common.{◌≡◌, ℕ, ◌+◌, ◌-◌, ◌/◌, ◌%◌, ◌<◌, List, [], ◌∷◌, ◌++◌, sym, refl, ap, ◌∙◌, arith}
use Rattle.std.proofs.lemmas.List.{append_assoc}
use Rattle.script.specs.Format.{mask, shown, marks}
use Rattle.script.proofs.Drafting.{extends_then, overflows_then, overflows_front, wrote_none, marks_next}
use Rattle.script.proofs.draft.put_mask.Goals as goal

-- what is left to write begins with this mark
next : (done : List ℕ) (n r set : ℕ) (all : List ℕ) → r < n → all ≡ done ++ shown mask (marks (n - r) set) → all ≡ (done ++ (48 + set % 2) ∷ []) ++ shown mask (marks (n - (r + 1)) (set / 2))
next done n r set all h e =
    let m : (n - r) - 1 ≡ n - (r + 1) = omega arith in
    e ∙ ap (λ (xs : List ℕ). done ++ xs) (marks_next (n - r) set (omega arith) ∙ ap (λ (j : ℕ). (48 + set % 2) ∷ shown mask (marks j (set / 2))) m)
    ∙ sym (append_assoc done ((48 + set % 2) ∷ []) (shown mask (marks (n - (r + 1)) (set / 2))))

pub returns-in_err-put : goal.returns-in_err-put
returns-in_err-put c =
    let i = c.loop.invariant in
    let all = next i.0 c.args.m.rigs c.loop.counter c.loop.left _ c.loop-test.true i.2 in
    let over = overflows_then c.args.draft.now c.loop.draft c.loop.draft i.0 ((48 + c.loop.left % 2) ∷ []) _ refl i.1 c.in_err-put.ensures in
    wrote_none _ _ _ _ c.from_residual.ensures.0 (overflows_front c.args.draft.now _ _ _ all over)

pub loop-preserved : goal.loop-preserved
loop-preserved c =
    let i = c.loop.invariant in (
      i.0 ++ (48 + c.loop.left % 2) ∷ [],
      extends_then _ _ _ i.0 ((48 + c.loop.left % 2) ∷ []) _ refl i.1 c.in_ok-put.ensures,
      next i.0 c.args.m.rigs c.loop.counter c.loop.left _ c.loop-test.true i.2,
    )
