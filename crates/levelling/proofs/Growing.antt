-- Around any numbers there is a smallest group closed under steps: add one number after another until no step leads out.
use Rattle.std.proofs.Common.{◌≡◌, ℕ, zero, suc, ◌+◌, ◌<◌, ◌≤◌, Bool, true, false, not, ◌&&◌, eqb, ◌⊎◌, inl, inr, arith}
use Rattle.std.proofs.lemmas.Bool.{cases_Bool, or_cases, or_left, eqb-true, and_parts, and_from, not-true, not_from_false}
use Rattle.std.proofs.lemmas.Bool.Decides.{not_from_Decides}
use Rattle.levelling.specs.Sums.{Group, size}
use Rattle.levelling.specs.Groups.{Smallest}
use Rattle.levelling.proofs.Sums.{any_to, any_decides, with_one, size_with_one, size_at_most}

-- steps i j: one steps from i to j
abbrev pub Steps : Type 0
Steps = ℕ → ℕ → Bool

-- no step leads out of G
abbrev pub ClosedBy : ℕ → Steps → Group → Type 0
ClosedBy n steps G = (i j : ℕ) → i < n → j < n → G i ≡ true → steps i j ≡ true → G j ≡ true

-- where two properties are one, their smallest groups are too
pub smallest_as : (n : ℕ) (P Q : Group → Type 0) → ((G : Group) → P G → Q G) → ((G : Group) → Q G → P G) →
    (S G : Group) → Smallest n P S G → Smallest n Q S G
smallest_as n P Q to from S G a =
    record { holds = a.holds; fits = to G a.fits; least = λ G' q. a.least G' (from G' q) }

-- a step from S to a number outside it
pub record Out (n : ℕ) (steps : Steps) (S : Group) : Type 0 where
  pub from : ℕ
  pub to : ℕ
  pub within : from < n
  pub without : to < n
  pub held : S from ≡ true
  pub step : steps from to ≡ true
  pub new : S to ≡ false

-- G is S with numbers added, each by a step from what is there
pub data Grown (n : ℕ) (steps : Steps) : Group → Group → Type 0 where
  done : {S : Group} → Grown n steps S S
  adds : {S G : Group} (out : Out n steps S) → Grown n steps (with_one S out.to) G → Grown n steps S G

-- the smallest closed group around S, and how it grows
pub record Closure (n : ℕ) (steps : Steps) (S : Group) : Type 0 where
  pub group : Group
  pub smallest : Smallest n (ClosedBy n steps) S group
  pub grown : Grown n steps S group

module _ (n : ℕ) (steps : Steps) where
  abbrev leads_out : Group → ℕ → Group
  leads_out S i j = S i && (steps i j && not (S j))

  out_or_closed : (S : Group) → Out n steps S ⊎ ClosedBy n steps S
  out_or_closed S =
      elim (cases_Bool (any_to n (λ i. any_to n (leads_out S i)))) [
        | inl t ↦
            let w = (any_decides n (λ i. any_to n (leads_out S i))).0 t in
            let v = (any_decides n (leads_out S w.0)).0 w.2 in
            let parts = and_parts _ _ v.2 in
            let rest = and_parts _ _ parts.1 in
            inl (record {
              from = w.0;
              to = v.0;
              within = w.1;
              without = v.1;
              held = parts.0;
              step = rest.0;
              new = not-true _ rest.1;
            })
        | inr f ↦ inr (λ i j li lj s t. elim (cases_Bool (S j)) [
          | inl m ↦ m
          | inr o ↦ absurd (not_from_Decides _ (any_decides n (λ i. any_to n (leads_out S i))) f
              (i, li, (any_decides n (leads_out S i)).1 (j, lj, and_from _ _ s (and_from _ _ t (not_from_false _ o)))))
        ])
      ]

  here : (S : Group) → ClosedBy n steps S → Closure n steps S
  here S closed = record {
    group = S;
    smallest = record { holds = λ r l s. s; fits = closed; least = λ G' t i. i };
    grown = done;
  }

  -- the smallest closed group around S and a number to which S steps is the one around S
  further : (S : Group) (out : Out n steps S) → Closure n steps (with_one S out.to) → Closure n steps S
  further S out more = record {
    group = more.group;
    smallest = record {
      holds = λ r l m. more.smallest.holds r l (or_left _ _ m);
      fits = more.smallest.fits;
      least = λ G closed all. more.smallest.least G closed (λ r l m. elim (or_cases (S r) (eqb out.to r) m) [
        | inl old ↦ all r l old
        | inr one ↦ rw (← eqb-true out.to r one)
            (closed out.from out.to out.within out.without (all out.from out.within out.held) out.step)
      ]);
    };
    grown = adds out more.grown;
  }

  -- room bounds how many numbers are outside S
  grow : (room : ℕ) (S : Group) → n ≤ size n S + room → Closure n steps S
  grow zero S most = elim (out_or_closed S) [
    | inr closed ↦ here S closed
    | inl out ↦
        let more = size_with_one n S out.to out.without out.new in
        let none : ⊥ = omega (arith, size_at_most n (with_one S out.to)) in
        absurd none
  ]
  grow (suc room) S most = elim (out_or_closed S) [
    | inr closed ↦ here S closed
    | inl out ↦
        let more = size_with_one n S out.to out.without out.new in
        further S out (grow room (with_one S out.to) (omega arith))
  ]

  pub closure : (S : Group) → Closure n steps S
  closure S = grow n S (omega arith)
