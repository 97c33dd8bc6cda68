-- A layer without a table changes nothing.
use Rattle.std.proofs.Common.{◌≡◌, ℕ, ◌-◌, ◌^◌, ◌<◌, ◌≤◌, Bool, true, false, ◌&&◌, ltb, [], refl, ◌∙◌, arith}
use Rattle.std.proofs.lemmas.Bool.Decides.{nat_tests}
use Rattle.rigset.specs.Sets.{has, first_rigs}
use Rattle.rigset.proofs.Digits.{has_ones}
use Rattle.rigset.proofs.Operations.{is_first}
use Rattle.sheet.specs.Meaning.{SheetMeaning, Lawful, SameMeaning}
use Rattle.layers.specs.Layers.{approved, renumbered}

-- a test that holds of all that is permitted leaves what is permitted
kept : (test permitted : Bool) → (permitted ≡ true → test ≡ true) → (test && permitted) ≡ permitted
kept true permitted h = refl
kept false true h = h refl
kept false false h = refl

pub approved_none : (m : SheetMeaning) → Lawful m → SameMeaning (approved [] m) m
approved_none m lawful = record {
  rigs = refl;
  types = refl;
  permitted = λ t r h. kept (has (2 ^ 64 - 1) r) (m.permitted t r) (λ e.
      has_ones 64 r ∙ is_rig r (lawful.within t h r e) lawful.shaped.1);
}
  where
    is_rig : (r : ℕ) → r < m.rigs → m.rigs ≤ 64 → ltb r 64 ≡ true
    is_rig r l k = grind (arith, nat_tests)

pub renumbered_none : (m : SheetMeaning) → Lawful m → SameMeaning (renumbered [] m) m
renumbered_none m lawful = record {
  rigs = refl;
  types = refl;
  permitted = λ t r h. kept (first_rigs m.rigs r) (m.permitted t r) (λ e.
      is_first m.rigs r (lawful.within t h r e) (omega (arith, lawful.shaped.1, lawful.within t h r e)));
}
