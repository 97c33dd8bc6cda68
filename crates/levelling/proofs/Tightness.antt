-- Confined pumps are placed on their group; the tight groups are the closed ones; what tightness depends on.
use Rattle.std.proofs.Common.{◌≡◌, ℕ, ◌<◌, ◌≤◌, Bool, true, false, cond, ◌&&◌, ◌||◌, eqb, ◌≢◌, ◌↔◌, sym, refl, ◌∙◌, inl, inr, arith}
use Rattle.std.proofs.lemmas.Bool.{cases_Bool, cases_eq, cases_lt, both_ways, cond-true, cond-false, or_cases, or_left, or_right, and_parts, and_from}
use Rattle.std.proofs.lemmas.Bool.Decides.{same_from_decides, Decides-like}
use Rattle.levelling.specs.Sums.{Group, Inside, inside, Alike, sum_to, sum_over}
use Rattle.levelling.specs.Halls.{Hall, Placing, Placement, height, SamePumps, Widened, Framed}
use Rattle.levelling.specs.Groups.{confined, placed_on, Tight, SmallestTight, Closed}
use Rattle.levelling.specs.Levels.{LevelBut}
use Rattle.levelling.specs.Theorems.{ConfinedPumpsAreNeverMoreThanPlaced, AGroupIsTightExactlyWhenClosed, TheCommonPartAndUnionOfTightGroupsAreTight, TightnessDependsOnlyOnUsableSetsStandingCountsAndHeights}
use Rattle.levelling.proofs.Sums.{sum_le, sum_same, sum_zero, sum_swap, sum_term, sum_even, sum_longer, inside_decides, inside_not}

cond_sum : (b : Bool) (n : ℕ) (f : ℕ → ℕ) → cond b (sum_to n f) 0 ≡ sum_to n (λ i. cond b (f i) 0)
cond_sum true n f = refl
cond_sum false n f = sym (sum_zero n (λ i. 0) (λ i l. refl))

cond_all : (b : Bool) (n : ℕ) → (n ≢ 0 → b ≡ true) → cond b n 0 ≡ n
cond_all b n h = elim (cases_eq n 0) [ inl z ↦ grind arith | inr d ↦ let t = h d in grind arith ]

-- the pumps of the class c that are confined to G
abbrev kept : {C R : ℕ} → Hall C R → Group → ℕ → ℕ
kept {C} {R} H G c = cond (inside R (H.usable c) G) (H.standing c) 0

module _ {C R : ℕ} (H : Hall C R) (x : Placing) (P : Placement H x) (G : Group) where
  by_class : placed_on R (height C x) G ≡ sum_to C (λ c. sum_over R G (x c))
  by_class =
      sum_same R _ _ (λ r l. cond_sum (G r) C (λ c. x c r)) ∙ sum_swap R C (λ r c. cond (G r) (x c r) 0)

  all_on : (c : ℕ) → c < C → Inside R (H.usable c) G → sum_over R G (x c) ≡ H.standing c
  all_on c lc i =
      sum_same R _ (x c) (λ r l. cond_all (G r) (x c r) (λ d. i r l (P.on_usable c r lc l d))) ∙ P.each_once c lc

  kept_on : (c : ℕ) → c < C → kept H G c ≤ sum_over R G (x c)
  kept_on c lc =
      elim (cases_Bool (inside R (H.usable c) G)) [
        | inl t ↦ omega (arith, all_on c lc ((inside_decides _ _ _).0 t), cond-true _ (H.standing c) 0 t)
        | inr f ↦ omega (arith, cond-false _ (H.standing c) 0 f)
      ]

  pub confined_at_most : confined H G ≤ placed_on R (height C x) G
  confined_at_most = rw by_class (sum_le C _ _ kept_on)

  pub tight_closed : Tight H (height C x) G → Closed H x G
  tight_closed e c r lc lr some g =
      let same = sum_even C (kept H G) (λ c. sum_over R G (x c)) kept_on (e ∙ by_class) c lc in
      let here = sum_term R (λ r. cond (G r) (x c r) 0) r lr in
      elim (cases_Bool (inside R (H.usable c) G)) [
        | inl t ↦ (inside_decides _ _ _).0 t
        | inr f ↦
            let none : ⊥ = omega (arith, cond-false _ (H.standing c) 0 f, cond-true _ (x c r) 0 g) in
            absurd none
      ]

  pub closed_tight : Closed H x G → Tight H (height C x) G
  closed_tight closed = rw by_class (sum_same C _ _ same)
    where
      bare : (c r : ℕ) → c < C → r < R → inside R (H.usable c) G ≡ false → cond (G r) (x c r) 0 ≡ 0
      bare c r lc lr f =
          elim (cases_eq (x c r) 0) [
            | inl z ↦ grind arith
            | inr d ↦ elim (cases_Bool (G r)) [
              | inl g ↦ absurd (inside_not _ _ _ f (closed c r lc lr d g))
              | inr o ↦ cond-false (G r) (x c r) 0 o
            ]
          ]

      same : (c : ℕ) → c < C → kept H G c ≡ sum_over R G (x c)
      same c lc =
          elim (cases_Bool (inside R (H.usable c) G)) [
            | inl t ↦ cond-true _ (H.standing c) 0 t ∙ sym (all_on c lc ((inside_decides _ _ _).0 t))
            | inr f ↦ cond-false _ (H.standing c) 0 f ∙ sym (sum_zero R _ (λ r l. bare c r lc l f))
          ]

pub confined_placed : ConfinedPumpsAreNeverMoreThanPlaced
confined_placed C R H x P G = confined_at_most H x P G

pub tight_is_closed : AGroupIsTightExactlyWhenClosed
tight_is_closed C R H x P G = (tight_closed H x P G, closed_tight H x P G)

module _ {C R : ℕ} (H : Hall C R) (x : Placing) (P : Placement H x) (F G : Group)
    (f : Tight H (height C x) F) (g : Tight H (height C x) G) where
  pub common_tight : Tight H (height C x) (λ r. F r && G r)
  common_tight =
      closed_tight H x P (λ r. F r && G r) (λ c r lc lr some m j lj u.
      let both = and_parts (F r) (G r) m in
      and_from _ _ (tight_closed H x P F f c r lc lr some both.0 j lj u) (tight_closed H x P G g c r lc lr some both.1 j lj u))

  pub union_tight : Tight H (height C x) (λ r. F r || G r)
  union_tight =
      closed_tight H x P (λ r. F r || G r) (λ c r lc lr some m j lj u.
      elim (or_cases (F r) (G r) m) [
        | inl a ↦ or_left _ _ (tight_closed H x P F f c r lc lr some a j lj u)
        | inr b ↦ or_right _ _ (tight_closed H x P G g c r lc lr some b j lj u)
      ])

pub common_and_union : TheCommonPartAndUnionOfTightGroupsAreTight
common_and_union C R H x P F G f g = (common_tight H x P F G f g, union_tight H x P F G f g)

-- ---- a hall in a larger frame, and halls where the same pumps stand
no_pump : (b : Bool) (n : ℕ) → n ≡ 0 → cond b n 0 ≡ 0
no_pump b n z = grind arith

module _ {C R C' R' : ℕ} (H : Hall C R) (H' : Hall C' R') (framed : Framed H H') (F G : Group) (alike : Alike R F G) where
  -- a standing class is confined to F in H just if it is to G in H': rigs that H has not do not matter
  inside_framed : (c : ℕ) → c < C → H.standing c ≢ 0 → inside R (H.usable c) F ≡ inside R' (H'.usable c) G
  inside_framed c lc some =
      same_from_decides _ _ (inside_decides R (H.usable c) F) (Decides-like _ to from (inside_decides R' (H'.usable c) G))
    where
      to : Inside R' (H'.usable c) G → Inside R (H.usable c) F
      to i r l u = alike r l ∙ i r (omega (arith, framed.rigs)) (sym (framed.usable c lc some r l) ∙ u)

      from : Inside R (H.usable c) F → Inside R' (H'.usable c) G
      from i r l u =
          elim (cases_lt r R) [
            | inl b ↦ sym (alike r b) ∙ i r b (framed.usable c lc some r b ∙ u)
            | inr a ↦ absurd (both_ways _ (framed.no_use c r lc some a l) u)
          ]

  pub confined_framed : confined H F ≡ confined H' G
  confined_framed = sum_longer C C' _ _ framed.classes at (λ c a l. no_pump _ _ (framed.no_pump c a l))
    where
      both : (a b : Bool) (n m : ℕ) → n ≡ m → (n ≢ 0 → a ≡ b) → cond a n 0 ≡ cond b m 0
      both a b n m e h = elim (cases_eq n 0) [ inl z ↦ grind arith | inr d ↦ let f = h d in grind arith ]

      at : (c : ℕ) → c < C → cond (inside R (H.usable c) F) (H.standing c) 0 ≡ cond (inside R' (H'.usable c) G) (H'.standing c) 0
      at c l = both _ _ _ _ (framed.standing c l) (inside_framed c l)

  -- nor do their heights, where they have none
  pub tight_framed : (h h' : ℕ → ℕ) → Alike R h h' → ((r : ℕ) → R ≤ r → r < R' → h' r ≡ 0) → Tight H h F ↔ Tight H' h' G
  tight_framed h h' same none = (λ t. sym confined_framed ∙ t ∙ placed, λ t. confined_framed ∙ t ∙ sym placed)
    where
      at : (a b : Bool) (n m : ℕ) → a ≡ b → n ≡ m → cond a n 0 ≡ cond b m 0
      at a b n m e f = rw (e, f) refl

      placed : placed_on R h F ≡ placed_on R' h' G
      placed = sum_longer R R' _ _ framed.rigs (λ r l. at _ _ _ _ (alike r l) (same r l)) (λ r a l. no_pump _ _ (none r a l))

pub inside_same : (n : ℕ) (S S' F G : Group) → Alike n S S' → Alike n F G → inside n S F ≡ inside n S' G
inside_same n S S' F G s g =
    same_from_decides _ _ (inside_decides n S F)
    (Decides-like _ (λ i r l m. g r l ∙ i r l (sym (s r l) ∙ m)) (λ i r l m. sym (g r l) ∙ i r l (s r l ∙ m)) (inside_decides n S' G))

flip : {A : Type 0} (n : ℕ) (f g : ℕ → A) → Alike n f g → Alike n g f
flip n f g h i l = sym (h i l)

pub same_flip : {C R : ℕ} (H H' : Hall C R) → SamePumps H H' → SamePumps H' H
same_flip {C} {R} H H' same = record {
  standing = flip C _ _ same.standing;
  usable = λ c l d. flip R _ _ (same.usable c l (λ z. d (sym (same.standing c l) ∙ z)));
}

pub same_widened : {C R : ℕ} (H H' : Hall C R) → SamePumps H H' → Widened H H'
same_widened H H' same =
    record { standing = same.standing; usable = λ c r lc lr d u. sym (same.usable c lc d r lr) ∙ u }

-- a class with a pump on a rig stands
pub stands : {C R : ℕ} (H : Hall C R) (x : Placing) → Placement H x → (c r : ℕ) → c < C → r < R → x c r ≢ 0 → H.standing c ≢ 0
stands {C} {R} H x P c r lc lr some z = some (omega (arith, sum_term R (x c) r lr, P.each_once c lc))

-- a placement stays one where each standing pump can use no fewer rigs
pub placement_widened : {C R : ℕ} (H H' : Hall C R) (x x' : Placing) → Widened H H' → ((c : ℕ) → c < C → Alike R (x c) (x' c)) →
    Placement H x → Placement H' x'
placement_widened {C} {R} H H' x x' wide same P = record {
  on_usable = λ c r lc lr d.
      let some : x c r ≢ 0 = λ z. d (sym (same c lc r lr) ∙ z) in
      wide.usable c r lc lr (stands H x P c r lc lr some) (P.on_usable c r lc lr some);
  each_once = λ c lc. sym (sum_same R _ _ (same c lc)) ∙ P.each_once c lc ∙ wide.standing c lc;
}

-- the same pumps stand in the frame that is no larger
pub same_framed : {C R : ℕ} (H H' : Hall C R) → SamePumps H H' → Framed H H'
same_framed {C} {R} H H' same = record {
  classes = omega arith;
  rigs = omega arith;
  standing = same.standing;
  no_pump = λ c a l. let none : ⊥ = omega arith in absurd none;
  usable = same.usable;
  no_use = λ c r lc d a l. let none : ⊥ = omega arith in absurd none;
}

module _ {C R : ℕ} (H H' : Hall C R) (h h' : ℕ → ℕ) (same : SamePumps H H') (alike : Alike R h h') where
  tight_same : (F G : Group) → Alike R F G → Tight H h F → Tight H' h' G
  tight_same F G e =
      (tight_framed H H' (same_framed H H' same) F G e h h' alike (λ r a l. let none : ⊥ = omega arith in absurd none)).0

module _ {C R : ℕ} (H H' : Hall C R) (h h' : ℕ → ℕ) (same : SamePumps H H') (alike : Alike R h h') where
  pub smallest_same : (S S' F G : Group) → Alike R S S' → Alike R F G → SmallestTight H h S F → SmallestTight H' h' S' G
  smallest_same S S' F G around groups a = record {
    holds = λ r l s. sym (groups r l) ∙ a.holds r l (around r l ∙ s);
    fits = tight_same H H' h h' same alike F G groups a.fits;
    least = λ G' t i r l g.
        a.least G' (tight_same H' H h' h (same_flip H H' same) (flip R h h' alike) G' G' (λ i l. refl) t)
        (λ j lj s. i j lj (sym (around j lj) ∙ s)) r l (groups r l ∙ g);
  }

module _ {C R : ℕ} (H H' : Hall C R) (h h' : ℕ → ℕ) (same : SamePumps H H') (alike : Alike R h h') where
  pub level_same : (E : Group) → LevelBut H h E → LevelBut H' h' E
  level_same E level r j G lr lj a g e =
      let near = level r j G lr lj (smallest_same H' H h' h (same_flip H H' same) (flip R h h' alike) (eqb r) (eqb r) G G (λ i l. refl) (λ i l. refl) a) g e in
      omega (arith, alike r lr, alike j lj)

pub depends_only : TightnessDependsOnlyOnUsableSetsStandingCountsAndHeights
depends_only C R H H' h h' same alike =
    (tight_same H H' h h' same alike, smallest_same H H' h h' same alike, level_same H H' h h' same alike)
