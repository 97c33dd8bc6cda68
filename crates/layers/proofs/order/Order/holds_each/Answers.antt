use Rattle.std.proofs.Common.{length, refl}
use Rattle.std.proofs.lemmas.Bool.Decides.{Decides-at}
use Rattle.layers.proofs.Orders.{each_once_decides}
use Rattle.layers.proofs.order.Order.holds_each.Goals as goal

pub returns : goal.returns
returns c =
    Decides-at c.is_subset.result _ c.is_subset.ensures
    (each_once_decides (length c.args.self.0.now) c.below.result.word c.named.result.word c.args.self.0.now c.requires
    refl c.below.ensures c.named.ensures)
