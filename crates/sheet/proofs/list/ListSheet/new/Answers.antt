use Rattle.std.proofs.Common.{arith}
use Rattle.sheet.proofs.Bounds.{none_within}
use Rattle.sheet.proofs.list.ListSheet.new.Goals as goal

pub invariant_of-result : goal.invariant_of-result
invariant_of-result c = record { shaped = (omega arith, omega arith, omega arith, omega arith); within = none_within _ }
