-- Groups of numbers, and sums over the numbers below n.
use Rattle.std.specs.Prelude.{◌≡◌, ℕ, zero, suc, ◌+◌, ◌<◌, Bool, true, cond, not, ◌&&◌, ◌||◌, ◌==◌, nat_eq}

-- A group, of rigs or of classes, told by a test: G i is true of its members.
abbrev pub Group : Type 0
Group = ℕ → Bool

-- The rig r alone.
abbrev pub only : ℕ → Group
only r = nat_eq r

-- Every member of S below n is in G.
abbrev pub Inside : ℕ → Group → Group → Type 0
Inside n S G = (i : ℕ) → i < n → S i ≡ true → G i ≡ true

-- The same as a test.
abbrev pub inside : ℕ → Group → Group → Bool
inside zero S G = true
inside (suc n) S G = (not (S n) || G n) && inside n S G

-- Two functions are the same below n.
abbrev pub Alike : {A : Type 0} → ℕ → (ℕ → A) → (ℕ → A) → Type 0
Alike n f g = (i : ℕ) → i < n → f i ≡ g i

-- f 0 + f 1 + .. + f (n - 1)
abbrev pub sum_to : ℕ → (ℕ → ℕ) → ℕ
sum_to zero f = 0
sum_to (suc n) f = sum_to n f + f n

-- The sum of f over the members of G below n.
abbrev pub sum_over : ℕ → Group → (ℕ → ℕ) → ℕ
sum_over n G f = sum_to n (λ i. cond (G i) (f i) 0)

-- How many members G has below n.
abbrev pub size : ℕ → Group → ℕ
size n G = sum_over n G (λ i. 1)

-- 1 at j, and 0 elsewhere.
abbrev pub unit : ℕ → ℕ → ℕ
unit j i = cond (i == j) 1 0

-- Below n, g is f with one more at j.
abbrev pub OneMore : ℕ → ℕ → (ℕ → ℕ) → (ℕ → ℕ) → Type 0
OneMore n j f g = (i : ℕ) → i < n → g i ≡ f i + unit j i

-- Below n, g is f with one moved from d to j.
abbrev pub OneMoved : ℕ → ℕ → ℕ → (ℕ → ℕ) → (ℕ → ℕ) → Type 0
OneMoved n d j f g = (i : ℕ) → i < n → g i + unit d i ≡ f i + unit j i
