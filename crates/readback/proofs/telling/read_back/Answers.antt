use Rattle.std.proofs.Common.{inl, arith}
use Rattle.readback.proofs.telling.read_back.Goals as goal

pub count-count-requires-clause-fits : goal.count-count-requires-clause-fits
count-count-requires-clause-fits c = inl (omega (arith, c.new-in-Ok.ensures.few, c.in-Ok.ensures.cases.within))
