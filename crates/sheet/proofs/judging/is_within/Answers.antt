use Rattle.std.proofs.Common.{arith}
use Rattle.std.proofs.lemmas.Bool.Decides.{Decides-at}
use Rattle.sheet.proofs.Bounds.{subset_within}
use Rattle.sheet.proofs.judging.is_within.Goals as goal

pub returns : goal.returns
returns c =
    Decides-at c.is_subset.result _ c.is_subset.ensures
    (subset_within c.args.word c.below.result.word c.args.rigs (omega arith) c.below.ensures)
