-- The smallest tight group around some rigs: what they reach by steps from a rig to the usable rigs of a pump on it.
use Rattle.std.proofs.Common.{◌≡◌, ℕ, ◌<◌, Bool, true, not, ◌&&◌, eqb, ◌≢◌, ◌↔◌, sym, refl, ◌∙◌, inl, inr, arith}
use Rattle.std.proofs.lemmas.Bool.{cases_Bool, both_ways, eqb-true, eqb-false, eq-eqb, ne_eqb, and_parts, and_from, not-true, not_from_false}
use Rattle.levelling.specs.Sums.{Group, only, Inside, Alike}
use Rattle.levelling.specs.Halls.{Hall, Placing, Placement, height}
use Rattle.levelling.specs.Groups.{Tight, Smallest, SmallestTight, Closed, ClosedBackwards, ReachedBackwards}
use Rattle.levelling.specs.Changes.{DonorOf, DonorTo}
use Rattle.levelling.specs.Theorems.{AnyRigsHaveOneSmallestTightGroup, TheDonorsOfAClassAreWhatAnyRigWithItsPumpReachesBackwards}
use Rattle.levelling.proofs.Sums.{any_to, any_decides, is_false}
use Rattle.levelling.proofs.Tightness.{tight_closed, closed_tight}
use Rattle.levelling.proofs.Growing.{Steps, ClosedBy, Grown, smallest_as, closure}

-- smallest groups around the same are the same
pub smallest_one : (n : ℕ) (P : Group → Type 0) (S F G : Group) → Smallest n P S F → Smallest n P S G → Alike n F G
smallest_one n P S F G f g r l =
    same (F r) (G r) (f.least G g.fits g.holds r l) (g.least F f.fits f.holds r l)
  where
    same : (a b : Bool) → (a ≡ true → b ≡ true) → (b ≡ true → a ≡ true) → a ≡ b
    same a b to from = grind arith

-- smallest groups go by the members of S only
pub smallest_around : (n : ℕ) (P : Group → Type 0) (S S' G : Group) → Inside n S S' → Inside n S' S → Smallest n P S G → Smallest n P S' G
smallest_around n P S S' G to from a =
    record { holds = λ r l s. a.holds r l (from r l s); fits = a.fits; least = λ G' p i. a.least G' p (λ r l s. i r l (to r l s)) }

only_self : (r : ℕ) → only r r ≡ true
only_self r = eq-eqb r r refl

-- a group that has r has all of only r
only_inside : (n r : ℕ) (G : Group) → G r ≡ true → Inside n (only r) G
only_inside n r G g j l e = rw (← eqb-true r j e) g

-- a pump on the rig r can use the rig j
pub steps : {C R : ℕ} → Hall C R → Placing → Steps
steps {C} {R} H x r j = any_to C (λ c. not (eqb (x c r) 0) && H.usable c j)

module _ {C R : ℕ} (H : Hall C R) (x : Placing) where
  -- what a step says: some class has a pump on i and can use j
  pub step_by : (i j : ℕ) → steps H x i j ≡ true → (c : ℕ) × (c < C) × (x c i ≢ 0) × (H.usable c j ≡ true)
  unfolding steps
  step_by i j s =
      let w = (any_decides C (λ c. not (eqb (x c i) 0) && H.usable c j)).0 s in
      let parts = and_parts _ _ w.2 in
      (w.0, w.1, eqb-false _ _ (not-true _ parts.0), parts.1)

  closed_steps : (G : Group) → Closed H x G → ClosedBy R (steps H x) G
  closed_steps G closed i j li lj g s = let w = step_by i j s in closed w.0 i w.1 li w.2 g j lj w.3

  steps_closed : (G : Group) → ClosedBy R (steps H x) G → Closed H x G
  unfolding steps
  steps_closed G closed c r lc lr some g j lj u =
      closed r j lr lj g ((any_decides C (λ c. not (eqb (x c r) 0) && H.usable c j)).1
      (c, lc, and_from _ _ (not_from_false _ (ne_eqb _ _ some)) u))

  -- the smallest tight group around S
  pub around : Group → Group
  around S = (closure R (steps H x) S).group

  pub around_grown : (S : Group) → Grown R (steps H x) S (around S)
  unfolding around
  around_grown S = (closure R (steps H x) S).grown

module _ {C R : ℕ} (H : Hall C R) (x : Placing) (P : Placement H x) where
  pub around_smallest : (S : Group) → SmallestTight H (height C x) S (around H x S)
  unfolding around
  around_smallest S =
      smallest_as R (ClosedBy R (steps H x)) (Tight H (height C x))
      (λ G c. closed_tight H x P G (steps_closed H x G c)) (λ G t. closed_steps H x G (tight_closed H x P G t))
      S (closure R (steps H x) S).group (closure R (steps H x) S).smallest

  -- a tight group that has the rig r has all of the smallest one around r
  pub around_within : (r : ℕ) (G : Group) → Tight H (height C x) G → G r ≡ true → Inside R (around H x (only r)) G
  around_within r G t g = (around_smallest (only r)).least G t (only_inside R r G g)

  pub around_self : (r : ℕ) → r < R → around H x (only r) r ≡ true
  around_self r l = (around_smallest (only r)).holds r l (only_self r)

  -- so being in it is being in each tight group that has r
  pub gives : (d r : ℕ) → d < R → r < R → around H x (only d) r ≡ true → DonorTo H (height C x) r d
  gives d r ld lr m G a = around_within d G a.fits (a.holds d ld (only_self d)) r lr m

  pub given : (d r : ℕ) → DonorTo H (height C x) r d → around H x (only d) r ≡ true
  given d r donor = donor (around H x (only d)) (around_smallest (only d))

  -- each rig of the smallest tight group around S is in the one around some rig of S
  pub around_from : (S : Group) (j : ℕ) → j < R → around H x S j ≡ true →
      (r : ℕ) × (r < R) × (S r ≡ true) × (around H x (only r) j ≡ true)
  around_from S j l g =
      let w = (any_decides R (λ r. S r && around H x (only r) j)).0 ((around_smallest S).least union tight has j l g) in
      let parts = and_parts _ _ w.2 in
      (w.0, w.1, parts.0, parts.1)
    where
      union : Group
      union j = any_to R (λ r. S r && around H x (only r) j)

      tight : Tight H (height C x) union
      tight = closed_tight H x P union (λ c r lc lr some m j lj u.
          let w = (any_decides R (λ i. S i && around H x (only i) r)).0 m in
          let parts = and_parts _ _ w.2 in
          let next = tight_closed H x P (around H x (only w.0)) (around_smallest (only w.0)).fits c r lc lr some parts.1 j lj u in
          (any_decides R (λ i. S i && around H x (only i) j)).1 (w.0, w.1, and_from _ _ parts.0 next))

      has : Inside R S union
      has r l s = (any_decides R (λ i. S i && around H x (only i) r)).1 (r, l, and_from _ _ s (around_self r l))

pub one_smallest : AnyRigsHaveOneSmallestTightGroup
one_smallest C R H x P S = ((around H x S, around_smallest H x P S), smallest_one R (Tight H (height C x)) S)

-- ---- donors
module _ {C R : ℕ} (H : Hall C R) (x : Placing) (P : Placement H x) (r : ℕ) (lr : r < R) where
  -- a donor of a class is a donor to each rig with a pump of it
  pub donor_of_to : (t d : ℕ) → t < C → x t r ≢ 0 → DonorOf H (height C x) t d → DonorTo H (height C x) r d
  donor_of_to t d lt some donor G a = donor G a r lr (P.on_usable t r lt lr some)

  pub donor_to_of : (t d : ℕ) → t < C → x t r ≢ 0 → DonorTo H (height C x) r d → DonorOf H (height C x) t d
  donor_to_of t d lt some donor G a = tight_closed H x P G a.fits t r lt lr some (donor G a)

  -- the donors to r
  donors : Group
  donors d = around H x (only d) r

  donors_backwards : ReachedBackwards H x r donors
  unfolding donors
  donors_backwards = record {
    holds = λ d l e. rw (← eqb-true r d e) (around_self H x P r lr);
    fits = λ c d j lc ld lj some u m.
        around_within H x P j (around H x (only d)) (around_smallest H x P (only d)).fits
        (tight_closed H x P (around H x (only d)) (around_smallest H x P (only d)).fits c d lc ld some (around_self H x P d ld) j lj u)
        r lr m;
    least = λ G back has d ld m. elim (cases_Bool (G d)) [
      | inl g ↦ g
      | inr o ↦
          let out : Tight H (height C x) (λ i. not (G i)) = closed_tight H x P (λ i. not (G i)) (λ c i lc li some n j lj u.
          not_from_false _ (is_false _ (λ g. both_ways _ (not-true _ n) (back c i j lc li lj some u g)))) in
          let none = around_within H x P d (λ i. not (G i)) out (not_from_false _ o) r lr m in
          absurd (both_ways _ (not-true _ none) (has r lr (only_self r)))
    ];
  }

  donors_told : (G : Group) → ReachedBackwards H x r G → (d : ℕ) → d < R → DonorTo H (height C x) r d ↔ (G d ≡ true)
  unfolding donors
  donors_told G back d ld =
      let same = smallest_one R (ClosedBackwards H x) (only r) G donors back donors_backwards d ld in
      (λ donor. same ∙ given H x P d r donor, λ g. gives H x P d r ld lr (sym same ∙ g))

pub three_ways : TheDonorsOfAClassAreWhatAnyRigWithItsPumpReachesBackwards
three_ways C R H x P r lr = (
  (λ t d lt some. (donor_of_to H x P r lr t d lt some, donor_to_of H x P r lr t d lt some)),
  donors_told H x P r lr,
  (donors H x P r lr, donors_backwards H x P r lr),
)
