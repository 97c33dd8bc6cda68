use Rattle.std.proofs.Common.{arith}
use Rattle.rating.proofs.Suiting.{nothing_suits}
use Rattle.rating.proofs.rated.RatingSheet.new.Goals as goal

pub returns : goal.returns
returns c = nothing_suits _ _ (omega arith)
