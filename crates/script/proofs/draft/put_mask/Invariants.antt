use Rattle.std.proofs.Common.{◌≡◌, ℕ, ◌-◌, List, ◌++◌}
use Rattle.script.specs.Drafts.{Extends}
use Rattle.script.specs.Format.{mask, shown, marks}
use Rattle.script.proofs.draft.put_mask.Given as goal

abbrev pub invariant-loop : goal.invariant-loop
invariant-loop l =
    (done : List ℕ) × Extends l.initial.draft done l.draft
    × (shown mask (marks l.end l.initial.left) ≡ done ++ shown mask (marks (l.end - l.counter) l.left))
