-- A set that a loop builds: it goes through the rigs by their numbers, and those that pass a test join.
use Rattle.std.proofs.Common.{◌≡◌, ℕ, ◌+◌, true, false, sym, ◌∙◌, arith}
use Rattle.std.proofs.lemmas.Bool.Decides.{nat_tests}
use Rattle.levelling.specs.Sums.{Group}
use Rattle.levelling.specs.Levels.{no_rig}
use Rattle.rigset.specs.declared.set.RigSet.{RigSet}
use Rattle.rigset.specs.Sets.{has, RigsAre, rig_numbered, first_rigs, either, common}

-- the set has the rigs below n that pass the test
pub record Gathered (set : ℕ) (test : Group) (n : ℕ) : Type 0 where
  pub rigs : RigsAre set (common (first_rigs n) test)

-- before the first rig
pub gathered_none : {set : ℕ} {test : Group} → RigsAre set no_rig → Gathered set test 0
gathered_none none = record { rigs = λ r. none r ∙ grind (arith, nat_tests) }

-- a rig that passes joins
pub gathered_one : {before n : ℕ} {test : Group} {set more : RigSet} → Gathered before test n → test n ≡ true →
    RigsAre more.word (either (has before) (rig_numbered n)) → set ≡ more → Gathered set.word test (n + 1)
gathered_one was passes joins is = record { rigs = λ r. grind (arith, nat_tests, joins r, was.rigs r) }

-- one that does not pass leaves the set as it was
pub gathered_not : {n : ℕ} {test : Group} {set before : RigSet} → Gathered before.word test n → test n ≡ false →
    set ≡ before → Gathered set.word test (n + 1)
gathered_not was fails is = record { rigs = λ r. grind (arith, nat_tests, was.rigs r) }

-- after the last rig
pub gathered_all : {set n : ℕ} {test : Group} → Gathered set test n → (m : ℕ) → n ≡ m → RigsAre set (common (first_rigs m) test)
gathered_all was m e = rw (sym e) was.rigs
