-- What a sheet answers to a question, and what filling one answers and leaves.
use Rattle.std.specs.Prelude.{◌≡◌, ℕ, ◌<◌, ◌≤◌, Ok, Err, Result, MatchResult}
use Rattle.rigset.specs.declared.set.RigSet.{RigSet}
use Rattle.rigset.specs.Sets.{RigsAre}
use Rattle.sheet.specs.Meaning.{SheetMeaning}
use Rattle.sheet.specs.declared.judging.FillRefusal.{FillRefusal}
use Rattle.sheet.specs.declared.judging.FillRefusal.TheVariants.{BadShape, ForeignRig, NotEachRigOnce}
use Rattle.sheet.specs.declared.interface.PermittedRefusal.{PermittedRefusal}
use Rattle.sheet.specs.declared.interface.PermittedRefusal.TheVariants.{NoSuchType}

-- The permitted set of the type t, or a refusal, which comes exactly when there is no such type.
abbrev pub Permits : SheetMeaning → ℕ → Result RigSet PermittedRefusal → Type 0
Permits m t (Ok set) = (t < m.types) × RigsAre set.word (m.permitted t)
Permits m t (Err e) = (m.types ≤ t) × (e ≡ NoSuchType)

-- Tables are accepted when they have the right shape, name no foreign rig and hold each rig once; else they are refused
-- for the first of these that fails.
abbrev pub FillJudged : (shaped within once : Type 0) → Result (Unit {0}) FillRefusal → Type 0
FillJudged shaped within once (Ok _) = shaped × within × once
FillJudged shaped within once (Err BadShape) = shaped → ⊥
FillJudged shaped within once (Err ForeignRig) = shaped × (within → ⊥)
FillJudged shaped within once (Err NotEachRigOnce) = shaped × within × (once → ⊥)

-- A condition that is not asked of these tables.
abbrev pub NotAsked : Type 0
NotAsked = Unit {0}

-- Accepted tables give a sheet the meaning asked for; a refusal leaves it as it was.
abbrev pub Fills : {S : Type 0} → (S → SheetMeaning) → SheetMeaning → S → S → Result (Unit {0}) FillRefusal → Type 0
Fills meaning asked before after r = MatchResult r (λ _. meaning after ≡ asked) (λ _. after ≡ before)
