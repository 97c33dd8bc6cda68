-- Sets within the rigs of a sheet.
use Rattle.std.proofs.Common.{ℕ, zero, suc, ◌^◌, ◌<◌, [], ◌∷◌, Decides, sym, ◌∙◌, arith}
use Rattle.std.proofs.lemmas.Bool.{both_ways}
use Rattle.std.proofs.lemmas.Bool.Decides.{Decides-like}
use Rattle.levelling.specs.Sums.{inside}
use Rattle.levelling.proofs.Sums.{inside_decides}
use Rattle.rigset.specs.Sets.{limit, has, RigsAre, first_rigs, AllBelow}
use Rattle.rigset.proofs.Digits.{has_none, has_within}
use Rattle.rigset.proofs.Operations.{first_is, is_first}
use Rattle.rigset.proofs.Counts.{limit_is}
use Rattle.sheet.specs.Meaning.{AllWithin}

-- the empty set is within any rigs
pub none_within : (rigs : ℕ) → AllWithin rigs (0 ∷ [])
none_within rigs zero h r t = absurd (both_ways (has 0 r) (has_none r) t)
none_within rigs (suc n) h r t = absurd (omega arith)

-- a word is a subset of the rigs below a number exactly when it names no other
pub subset_within : (w all rigs : ℕ) → w < 2 ^ 64 → RigsAre all (first_rigs rigs) →
    Decides (inside limit (has w) (has all)) (AllBelow rigs (has w))
subset_within w all rigs small holds =
    Decides-like (inside limit (has w) (has all))
    (λ s r t. first_is rigs r (sym (holds r) ∙ s r (omega (arith, limit_is, has_within 64 w r small t)) t))
    (λ p r l t. holds r ∙ is_first rigs r (p r t) (omega (arith, limit_is)))
    (inside_decides limit (has w) (has all))
