use Rattle.std.proofs.Common.{◌≡◌, Ok, ap, ◌∙◌, subst}
use Rattle.sheet.specs.Meaning.{SheetMeaning}
use Rattle.sheet.specs.Readings.{Reads}
use Rattle.rating.specs.Ratings.{rated}
use Rattle.rating.specs.Sheets.{rating_meaning}
use Rattle.layers.specs.Layers.{approved, renumbered}
use Rattle.layers.specs.Sheets.{layer_meaning}
use Rattle.layers.specs.declared.approvals.Approvals.{Approvals}
use Rattle.layers.specs.declared.order.Order.{Order}
use Rattle.layers.specs.Judgements.{ApprovalsJudged, OrderJudged}
use Rattle.permits.proofs.piles.read_pile.Goals as goal

-- each layer stands on what was made before it
pub returns : goal.returns
returns c =
    let approvals = c.args.approvals.now in
    let order = c.args.order.now in
    let base : SheetMeaning = rated c.args.rigs.now c.args.pumps.now in
    let low : SheetMeaning = rating_meaning c.over-approval.result.below in
    let middle = layer_meaning rating_meaning (λ (t : Approvals). approved t.0.now) in
    let mid : SheetMeaning = middle c.over-pile.result.below in
    let top : SheetMeaning = layer_meaning middle (λ (t : Order). renumbered t.0.now) c.fill-3.new.self in
    let approval = c.in_ok-fill-2.ensures in
    let pile = c.in_ok-fill-3.ensures in
    let first : low ≡ base = ap rating_meaning c.over-approval.ensures.below ∙ c.in_ok-fill.ensures.means in
    let second : mid ≡ approved approvals base =
    ap middle c.over-pile.ensures.below ∙ approval.means ∙ ap (approved approvals) first in
    let third : top ≡ renumbered order (approved approvals base) = pile.means ∙ ap (renumbered order) second in (
      c.in_ok-fill.ensures.judged,
      subst (λ m. ApprovalsJudged m approvals (Ok tt)) first approval.judged,
      subst (λ m. OrderJudged m order (Ok tt)) second pile.judged,
      subst (λ m. Reads m c.read_sheet.result) third c.read_sheet.ensures,
    )
