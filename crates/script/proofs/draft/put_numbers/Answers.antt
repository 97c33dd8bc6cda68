use Rattle.std.proofs.Common.{◌+◌}
use Rattle.script.proofs.Drafting.{listed_more, listed_rest, extends_then, overflows_then, overflows_front, wrote_none}
use Rattle.script.proofs.draft.put_numbers.Goals as goal

pub returns-in_err-put_number : goal.returns-in_err-put_number
returns-in_err-put_number c =
    let ns = c.args.numbers.now in
    let over = overflows_then _ c.loop-n.draft c.loop-n.draft _ _ _ (listed_more ns c.loop-n.n-index c.loop-n-test.true) c.loop-n.invariant c.in_err-put_number.ensures in
    wrote_none _ _ _ _ c.from_residual.ensures.0 (overflows_front c.args.draft.now _ _ _ (listed_rest ns (c.loop-n.n-index + 1)) over)

pub loop-n-preserved : goal.loop-n-preserved
loop-n-preserved c = extends_then _ _ _ _ _ _ (listed_more c.args.numbers.now c.loop-n.n-index c.loop-n-test.true) c.loop-n.invariant c.in_ok-put_number.ensures
