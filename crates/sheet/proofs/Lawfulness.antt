-- Meanings that a sheet may have.
use Rattle.std.proofs.Common.{◌≡◌, ℕ, Bool, true, ◌&&◌, arith}
use Rattle.levelling.specs.Sums.{Group}
use Rattle.rigset.specs.Sets.{first_rigs}
use Rattle.rigset.proofs.Operations.{first_is}
use Rattle.sheet.specs.Meaning.{SheetMeaning, Shaped, Lawful, permitting, narrowed}

first : (a b : Bool) → (a && b) ≡ true → a ≡ true
first a b e = grind arith

second : (a b : Bool) → (a && b) ≡ true → b ≡ true
second a b e = grind arith

pub permitting_lawful : (rigs types : ℕ) (test : ℕ → Group) → Shaped rigs types → Lawful (permitting rigs types test)
permitting_lawful rigs types test shaped =
    record { shaped = shaped; within = λ t h r e. first_is rigs r (first (first_rigs rigs r) (test t r) e) }

pub narrowed_lawful : (test : ℕ → Group) (m : SheetMeaning) → Lawful m → Lawful (narrowed test m)
narrowed_lawful test m lawful = record {
  shaped = lawful.shaped;
  within = λ t h r e. lawful.within t h r (second (test t r) (m.permitted t r) e);
}
