-- Laws of sets of rigs. Each stands on the contract of a function of src/, of the same name.
use Rattle.std.specs.Prelude.{◌≡◌, ℕ, ◌^◌, ◌<◌}
use Rattle.levelling.specs.Sums.{Alike, sum_over}
use Rattle.rigset.specs.Sets.{limit, has}

-- Each rig of a set counts 2 to the power of its number, and nothing else counts.
abbrev pub ASetIsTheSumOfWhatItsRigsCount : Type 0
ASetIsTheSumOfWhatItsRigsCount = (m : ℕ) → m < 2 ^ 64 → m ≡ sum_over limit (has m) (λ r. 2 ^ r)

-- Two words that agree on every rig are one number.
abbrev pub SetsWithTheSameRigsAreTheSameNumber : Type 0
SetsWithTheSameRigsAreTheSameNumber =
    (m n : ℕ) → m < 2 ^ 64 → n < 2 ^ 64 → Alike limit (has m) (has n) → m ≡ n
