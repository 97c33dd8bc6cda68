use Rattle.std.proofs.Common.{◌≡◌, ℕ, ◌<◌, List, [], ◌++◌, length, drop, refl, ap, ◌∙◌, subst, rules}
use Rattle.bounded.specs.Entries.{entries}
use Rattle.bounded.specs.declared.Bounded.{Bounded}
use Rattle.script.specs.Drafts.{Extends}
use Rattle.script.specs.Format.{Meaning, meaning, line, Accepted, Faulty}
use Rattle.script.proofs.ReadBack.{Sized, word_known, reads_itself, written}
use Rattle.script.proofs.writing.write.Goals as goal

-- the draft, empty at first, has the line
drafted : (empty full : Bounded ℕ) (text : List ℕ) (m : Meaning) → entries empty ≡ [] → Extends empty (line m) full → text ≡ entries full → text ≡ line m
drafted empty full text m e x t = t ∙ x.held ∙ ap (λ (xs : List ℕ). xs ++ line m) e

pub unreachable-requires : goal.unreachable-requires
unreachable-requires c =
    let t : c.as_slice-line.result.now ≡ line (meaning c.args.command) = search (rules, drafted) in
    word_known (meaning c.args.command)
    (subst (Faulty (line (meaning c.args.command))) c.in-UnknownWord.is
    (subst (λ (l : List ℕ). Faulty l c.in-Err.fault) t c.in-Err.ensures.judged))

pub returns-then-out-n : goal.returns-then-out-n
returns-then-out-n c =
    let t : c.as_slice-line.result.now ≡ line (meaning c.args.command) = search (rules, drafted) in
    let s : Sized c.args.command = search rules in
    let a = subst (λ (l : List ℕ). Accepted l (meaning c.in_default.field-0)) t c.in_default.ensures.judged in
    (refl, (reads_itself c.args.command s _ a, subst (λ (l : List ℕ). length c.args.out.now < length l) t c.if-out-n.true))

pub returns : goal.returns
returns c =
    let t : c.as_slice-line.result.now ≡ line (meaning c.args.command) = search (rules, drafted) in
    let s : Sized c.args.command = search rules in
    let a = subst (λ (l : List ℕ). Accepted l (meaning c.in_default.field-0)) t c.in_default.ensures.judged in
    written c.args.out.now _ (meaning c.args.command) _ (ap length t) c.if-out-n.false
    (ap (λ (xs : List ℕ). xs ++ drop (length c.as_slice-line.result.now) c.args.out.now) (c.copy_from_slice.ensures.after ∙ t))
    (reads_itself c.args.command s _ a)
