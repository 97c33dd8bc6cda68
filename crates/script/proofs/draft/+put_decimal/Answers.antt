use Rattle.std.proofs.Common.{ℕ, ◌+◌, ◌%◌, [], ◌∷◌, subst}
use Rattle.bounded.specs.declared.Bounded.{Bounded}
use Rattle.script.specs.Drafts.{Wrote}
use Rattle.script.proofs.Drafting.{wrote_then, wrote_none, wrote_as, overflows_front, decimal_last, decimal_only}
use Rattle.script.proofs.draft.+put_decimal.Goals as goal
use Rattle.script.proofs.draft.+put_decimal.Goals.{then-n-ge10+in_ok-put_decimal, else-n-ge10}

pub returns-in_err-put_decimal : goal.returns-in_err-put_decimal
returns-in_err-put_decimal t c =
    wrote_none _ _ _ _ c.from_residual.ensures.0
    (overflows_front c.args.draft.now _ _ _ (decimal_last c.args.n c.if-n-ge10.true c.ranges.n.fits) c.in_err-put_decimal.ensures)

pub returns : goal.returns
returns t c =
    let last : (d : Bounded ℕ) → Type 0 = λ d. Wrote d ((48 + c.args.n % 10) ∷ []) c.put.new.draft c.put.result in
    elim c.if-n-ge10.branch [
      | then-n-ge10+in_ok-put_decimal w ↦
          wrote_then _ _ _ _ _ _ (decimal_last c.args.n w.if-n-ge10.true c.ranges.n.fits) w.in_ok-put_decimal.ensures c.put.result
          (subst last w.draft-is c.put.ensures)
      | else-n-ge10 w ↦
          wrote_as _ _ _ _ c.put.result (decimal_only c.args.n w.if-n-ge10.false) (subst last w.draft-is c.put.ensures)
    ]
