-- A rig left out with its pumps leaves what was level level, and a rig let in is the only one too low.
use Rattle.std.proofs.Common.{◌≡◌, ℕ, ◌+◌, ◌<◌, cond, not, ◌&&◌, eqb, ◌≢◌, sym, refl, ap, ◌∙◌, inl, inr, arith}
use Rattle.std.proofs.lemmas.Bool.{cases_eq, both_ways, or_cases, or_left, or_right, and_parts, and_from, eqb-true, eqb-false, eq-eqb, ne_eqb, not-true, not_from_false}
use Rattle.levelling.specs.Sums.{only}
use Rattle.levelling.specs.Halls.{Placement, height}
use Rattle.levelling.specs.Levels.{no_rig, Cut}
use Rattle.levelling.specs.Theorems.{LeavingOutARigAndItsPumpsKeepsLevel, LettingInARigKeepsLevelButForIt}
use Rattle.levelling.proofs.Sums.{sum_same, sum_zero, sum_add, sum_spot, with_one}
use Rattle.levelling.proofs.Tightness.{tight_closed, closed_tight}
use Rattle.levelling.proofs.Cutting.{level_cut, cuts_level}

pub leaving_out : LeavingOutARigAndItsPumpsKeepsLevel
leaving_out C R H H' x x' P level r left = (P', cuts_level H' (height C x') no_rig cuts)
  where
    lr : r < R
    lr = left.without.rig

    elsewhere : (c j : ℕ) → c < C → x' c j ≢ 0 → j ≢ r
    elsewhere c j lc some e = some (ap (x' c) e ∙ left.bare c lc)

    was : (c j : ℕ) → c < C → j < R → (some : x' c j ≢ 0) → x c j ≢ 0
    was c j lc lj some z = some (left.stay c j lc lj (elsewhere c j lc some) ∙ z)

    split : (c j : ℕ) → c < C → j < R → x c j ≡ x' c j + cond (eqb j r) (x c r) 0
    split c j lc lj =
        elim (cases_eq j r) [
          | inl e ↦ let here = ap (x c) e in let gone = ap (x' c) e ∙ left.bare c lc in grind arith
          | inr d ↦ let same = left.stay c j lc lj d in grind arith
        ]

    P' : Placement H' x'
    P' = record {
      on_usable = λ c j lc lj some.
          left.without.others c j lc lj (elsewhere c j lc some) ∙ P.on_usable c j lc lj (was c j lc lj some);
      each_once = λ c lc.
          let parts = sum_same R _ _ (λ j lj. split c j lc lj) ∙ sum_add R (x' c) (λ j. cond (eqb j r) (x c r) 0) in
          omega (arith, sum_spot R r (x c r) lr, P.each_once c lc, left.fewer c lc);
    }

    same_height : (j : ℕ) → j < R → j ≢ r → height C x' j ≡ height C x j
    same_height j lj d = sum_same C _ _ (λ c lc. left.stay c j lc lj d)

    no_height : height C x' r ≡ 0
    no_height = sum_zero C _ left.bare

    old : (k : ℕ) → Cut H (height C x) no_rig k
    old k = level_cut H x P k no_rig level

    cuts : (k : ℕ) → Cut H' (height C x') no_rig k
    cuts k = record {
      group = λ j. (old k).group j && not (eqb r j);
      tight = closed_tight H' x' P' (λ j. (old k).group j && not (eqb r j)) (λ c j lc lj some m i li u.
          let parts = and_parts _ _ m in
          let d : i ≢ r = λ e. both_ways _ (left.without.out c lc) (ap (H'.usable c) (sym e) ∙ u) in
          and_from _ _
          (tight_closed H x P (old k).group (old k).tight c j lc lj (was c j lc lj some) parts.0 i li (sym (left.without.others c i lc li d) ∙ u))
          (not_from_false _ (ne_eqb r i (λ e. d (sym e)))));
      above = λ j lj b. elim (cases_eq j r) [
        | inl e ↦ let none : ⊥ = omega (arith, ap (height C x') e, no_height) in absurd none
        | inr d ↦ and_from _ _ ((old k).above j lj (omega (arith, same_height j lj d))) (not_from_false _ (ne_eqb r j (λ e. d (sym e))))
      ];
      below = λ j lj m e.
          let parts = and_parts ((old k).group j) (not (eqb r j)) m in
          let d : j ≢ r = λ q. eqb-false r j (not-true _ parts.1) (sym q) in
          omega (arith, same_height j lj d, (old k).below j lj parts.0 e);
    }

pub letting_in : LettingInARigKeepsLevelButForIt
letting_in C R H H' x P level r into = (P', bare, cuts_level H' (height C x) (only r) cuts)
  where
    elsewhere : (c j : ℕ) → c < C → j < R → x c j ≢ 0 → j ≢ r
    elsewhere c j lc lj some e = both_ways _ (into.without.out c lc) (ap (H.usable c) (sym e) ∙ P.on_usable c j lc lj some)

    P' : Placement H' x
    P' = record {
      on_usable = λ c j lc lj some. sym (into.without.others c j lc lj (elsewhere c j lc lj some)) ∙ P.on_usable c j lc lj some;
      each_once = λ c lc. P.each_once c lc ∙ into.standing c lc;
    }

    bare : height C x r ≡ 0
    bare = sum_zero C _ (λ c lc. elim (cases_eq (x c r) 0) [ inl z ↦ z | inr d ↦ absurd (elsewhere c r lc into.without.rig d refl) ])

    old : (k : ℕ) → Cut H (height C x) no_rig k
    old k = level_cut H x P k no_rig level

    cuts : (k : ℕ) → Cut H' (height C x) (only r) k
    cuts k = record {
      group = with_one (old k).group r;
      tight = closed_tight H' x P' (with_one (old k).group r) (λ c j lc lj some m i li u.
          elim (or_cases ((old k).group j) (eqb r j) m) [
            | inr e ↦ absurd (elsewhere c j lc lj some (sym (eqb-true r j e)))
            | inl g ↦ elim (cases_eq i r) [
              | inl e ↦ or_right _ _ (eq-eqb r i (sym e))
              | inr d ↦ or_left _ _
                  (tight_closed H x P (old k).group (old k).tight c j lc lj some g i li (into.without.others c i lc li d ∙ u))
            ]
          ]);
      above = λ j lj b. or_left _ _ ((old k).above j lj b);
      below = λ j lj m e. elim (or_cases ((old k).group j) (eqb r j) m) [
        | inl g ↦ (old k).below j lj g refl
        | inr t ↦ absurd (both_ways _ e t)
      ];
    }
