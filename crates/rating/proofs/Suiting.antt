-- A rig without pressure may test no pump that needs some.
use Rattle.std.proofs.Common.{◌≡◌, ℕ, zero, suc, ◌<◌, Bool, false, ◌&&◌, [], ◌∷◌, sym, refl, ◌∙◌, arith}
use Rattle.std.proofs.lemmas.Bool.Decides.{nat_tests}
use Rattle.sheet.specs.Meaning.{SameMeaning, nothing_permitted}
use Rattle.rigset.specs.Sets.{first_rigs}
use Rattle.rigset.proofs.Digits.{has_none}
use Rattle.rating.specs.declared.ratings.RigRating.{RigRating}
use Rattle.rating.specs.declared.ratings.PumpRating.{PumpRating}
use Rattle.rating.specs.Ratings.{suits, rated}

pub nothing_suits : (rig : RigRating) (pump : PumpRating) → rig.pressure < pump.pressure →
    SameMeaning (rated (rig ∷ []) (pump ∷ [])) nothing_permitted
nothing_suits rig pump h = record { rigs = refl; types = refl; permitted = same }
  where
    weak : (g : RigRating) → g.pressure < pump.pressure → suits g pump ≡ false
    weak g l = grind (arith, nat_tests)

    fails : (b : Bool) → b ≡ false → (first_rigs 1 0 && b) ≡ false
    fails b e = grind (arith, nat_tests)

    past : (r : ℕ) (b : Bool) → (first_rigs 1 (suc r) && b) ≡ false
    past r b = grind (arith, nat_tests)

    same : (t r : ℕ) → t < 1 → (rated (rig ∷ []) (pump ∷ [])).permitted t r ≡ nothing_permitted.permitted t r
    same zero zero l = fails (suits rig pump) (weak rig h) ∙ sym (has_none 0)
    same zero (suc r) l = past r _ ∙ sym (has_none (suc r))
    same (suc t) r l = absurd (omega arith)
