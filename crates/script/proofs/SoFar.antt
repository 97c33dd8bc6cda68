-- Going through the lines of a text: what was found so far, and what the rest adds. Assumes nothing.
use Rattle.std.proofs.Common.{◌≡◌, ℕ, ◌+◌, ◌-◌, ◌≤◌, ◌⊎◌, inl, inr, List, [], ◌∷◌, ◌++◌, length, sym, subst, arith}
use Rattle.std.proofs.lemmas.List.{append-nil, append_assoc}

-- Whatever R says of the lines left, numbered from n, it says of all lines once this stands in front.
abbrev pub SoFar : {X : Type 0} → (ℕ → List (List ℕ) → List X → Type 0) → List (List ℕ) → ℕ → List (List ℕ) → List X → Type 0
SoFar R all n left done = (more : _) → R n left more → R 1 all (done ++ more)

-- at the start all lines are left
pub so_far_none : {X : Type 0} (R : ℕ → List (List ℕ) → List X → Type 0) (all left : List (List ℕ)) (n : ℕ) → n ≡ 1 → left ≡ all → SoFar R all n left []
so_far_none R all left n e f more t = subst (λ (ls : List (List ℕ)). R 1 ls more) f (subst (λ (k : ℕ). R k left more) e t)

module _ {X : Type 0} (R : ℕ → List (List ℕ) → List X → Type 0) (all left : List (List ℕ)) (n : ℕ) (done : List X) (so : SoFar R all n left done) where
  module _ (line : List ℕ) (others : List (List ℕ)) (cut : left ≡ line ∷ others) (m : ℕ) (next : m ≡ n + 1) where
    -- a line that adds nothing
    pub so_far_passed : ((more : List X) → R (n + 1) others more → R n (line ∷ others) more) → SoFar R all m others done
    so_far_passed step more t =
        so more (subst (λ (ls : List (List ℕ)). R n ls more) (sym cut) (step more (subst (λ (k : ℕ). R k others more) next t)))

    -- a line that adds these
    pub so_far_added : (new : List X) → ((more : List X) → R (n + 1) others more → R n (line ∷ others) (new ++ more)) → SoFar R all m others (done ++ new)
    so_far_added new step more t =
        subst (R 1 all) (sym (append_assoc done new more))
        (so (new ++ more) (subst (λ (ls : List (List ℕ)). R n ls (new ++ more)) (sym cut) (step more (subst (λ (k : ℕ). R k others more) next t))))

  -- no line is left
  pub so_far_all : left ≡ [] → R n [] [] → R 1 all done
  so_far_all e z = subst (R 1 all) (append-nil done) (so [] (subst (λ (ls : List (List ℕ)). R n ls []) (sym e) z))

-- numbers do not run out before the lines do
pub all_passed : {X Y : Type 0} {P : X → Type 0} {Q : Y → Type 0} (n : ℕ) (left : List (List ℕ)) → n + length left ≤ 65537 → ((x : X) × ((4294967295 - n ≡ 0) × P x)) ⊎ ((y : Y) × ((left ≡ []) × Q y)) → left ≡ []
all_passed n left h (inl p) = absurd (omega (arith, p.1.0))
all_passed n left h (inr p) = p.1.0
