use Rattle.std.proofs.Common.{◌≡◌, ℕ, ◌||◌, length, ap, ◌∙◌, subst, arith}
use Rattle.rigset.specs.Sets.{has, rig_numbered}
use Rattle.layers.proofs.Orders.{Names, names_none, names_more}
use Rattle.layers.proofs.order.Order.named.Goals as goal

pub loop-rig-init : goal.loop-rig-init
loop-rig-init c = names_none c.new-set.result.word c.args.self.0.now c.new-set.ensures

pub loop-rig-preserved : goal.loop-rig-preserved
loop-rig-preserved c =
    names_more c.loop-rig.set.word c.insert.new.self.word c.args.self.0.now c.loop-rig.rig-index c.loop-rig.invariant
    (λ r. c.insert.ensures.set r ∙ ap (λ (x : ℕ). has c.loop-rig.set.word r || rig_numbered x r) c.from.ensures)

pub returns : goal.returns
returns c =
    let all : c.loop-rig.rig-index ≡ length c.args.self.0.now = omega arith in
    subst (Names c.loop-rig.set.word c.args.self.0.now) all c.loop-rig.invariant
