use Rattle.std.proofs.Common.{◌≡◌, ◌+◌, ◌<◌, length, arith}
use Rattle.std.proofs.lemmas.List.{length_push}
use Rattle.std.proofs.lemmas.Iterator.Adapters.{YieldsList-from_rev_slice}
use Rattle.std.proofs.lemmas.Iterator.Consumers.{YieldsList-turn}
use Rattle.script.proofs.Numerals.{masked_at, tail_more}
use Rattle.script.proofs.fields.MaskFieldValue.parse.Goals as goal
use Rattle.script.proofs.fields.MaskFieldValue.parse.Goals.{in-48, in-49}

pub returns-in_default : goal.returns-in_default
returns-in_default c g =
    let t = YieldsList-turn (YieldsList-from_rev_slice c.args.field.now cc) c.loop-b.yielded _ c.loop-b.yielded_by _ _ c.in-Some.b c.in-Some.is c.next.ensures.steps in
    omega (arith, masked_at c.args.field.now g _ _ t.0 t.1)

pub loop-b-preserved : goal.loop-b-preserved
loop-b-preserved c =
    let t = YieldsList-turn (YieldsList-from_rev_slice c.args.field.now cc) c.loop-b.yielded _ c.loop-b.yielded_by _ _ c.in-Some.b c.in-Some.is c.next.ensures.steps in
    let k : (c.in-Some.b.now ≡ 48 + c.match-b.bit) × (c.match-b.bit < 2) =
    elim c.match-b.branch [ in-48 w ↦ (omega arith, omega arith) | in-49 w ↦ (omega arith, omega arith) ] in
    tail_more c.args.field.now (length c.loop-b.yielded) _ _ _ _ t.0 t.1 (length_push c.loop-b.yielded c.in-Some.b) k.0 k.1 c.loop-b.invariant
