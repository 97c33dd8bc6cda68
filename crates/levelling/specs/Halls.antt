-- A hall of pumps and rigs, and the placements of its pumps.
use Rattle.std.specs.Prelude.{◌≡◌, ℕ, ◌<◌, ◌≤◌, true, false, ◌≢◌}
use Rattle.levelling.specs.Sums.{Group, Alike, sum_to}

-- Pumps of the classes c < C and rigs r < R: the rigs that each class can use, and how many pumps of each class
-- stand. A rig that is out of service is one that no class can use.
pub record Hall (C R : ℕ) : Type 0 where
  pub usable : ℕ → Group
  pub standing : ℕ → ℕ

-- How many pumps stand in all.
abbrev pub pumps : {C R : ℕ} → Hall C R → ℕ
pumps {C} {R} H = sum_to C H.standing

-- How many pumps of a class are on a rig.
abbrev pub Placing : Type 0
Placing = ℕ → ℕ → ℕ

-- Each standing pump is placed once, on a rig that its class can use.
pub record Placement {C R : ℕ} (H : Hall C R) (placed : Placing) : Type 0 where
  pub on_usable : (c r : ℕ) → c < C → r < R → placed c r ≢ 0 → H.usable c r ≡ true
  pub each_once : (c : ℕ) → c < C → sum_to R (placed c) ≡ H.standing c

-- How many pumps are placed on the rig r.
abbrev pub height : ℕ → Placing → ℕ → ℕ
height C placed r = sum_to C (λ c. placed c r)

-- In both halls the same pumps stand: as many of each class, and those that stand can use the same rigs.
pub record SamePumps {C R : ℕ} (H H' : Hall C R) : Type 0 where
  pub standing : Alike C H.standing H'.standing
  pub usable : (c : ℕ) → c < C → H.standing c ≢ 0 → Alike R (H.usable c) (H'.usable c)

-- As many pumps of each class stand in both halls, and those that stand can use in H' what they can use in H, perhaps more.
pub record Widened {C R : ℕ} (H H' : Hall C R) : Type 0 where
  pub standing : Alike C H.standing H'.standing
  pub usable : (c r : ℕ) → c < C → r < R → H.standing c ≢ 0 → H.usable c r ≡ true → H'.usable c r ≡ true

-- H' is H in a larger frame: with more classes, of which no pump stands, and more rigs, which no standing pump can use.
pub record Framed {C R C' R' : ℕ} (H : Hall C R) (H' : Hall C' R') : Type 0 where
  pub classes : C ≤ C'
  pub rigs : R ≤ R'
  pub standing : Alike C H.standing H'.standing
  pub no_pump : (c : ℕ) → C ≤ c → c < C' → H'.standing c ≡ 0
  pub usable : (c : ℕ) → c < C → H.standing c ≢ 0 → Alike R (H.usable c) (H'.usable c)
  pub no_use : (c r : ℕ) → c < C → H.standing c ≢ 0 → R ≤ r → r < R' → H'.usable c r ≡ false
