-- What is told of a text: each line by its number, as it was understood, and how many there are.
use Rattle.std.specs.Prelude.{◌≡◌, ℕ, ◌+◌, List, [], ◌∷◌, ◌++◌, length, codes, decimal}
use Rattle.script.specs.Format.{line}
use Rattle.script.specs.Numbers.{fault_number, fault_field, text_number}
use Rattle.script.specs.Texts.{lines, Within, Beyond, FaultyOnes}
use Rattle.script.specs.Verdicts.{Verdict, accepted, faulty, Judged}
use Rattle.script.specs.declared.checking.TextRefusal.TheVariants.{TooLong}
use Rattle.script.specs.declared.faults.FaultyLine.{FaultyLine}

-- The line that tells a fault: number of the line, cause and field.
abbrev pub fault_told : ℕ → ℕ → ℕ → List ℕ
fault_told n cause field = decimal n ++ (codes ",FAULT," ++ (decimal cause ++ (codes "," ++ (decimal field ++ codes "\n"))))

-- What is told of line n: the line of its command, or its fault.
abbrev pub line_told : ℕ → Verdict → List ℕ
line_told n (accepted m) = (decimal n ++ codes ",") ++ line m
line_told n (faulty f) = fault_told n (fault_number f) (fault_field f)

-- What is told of these lines, in order; the first line has the number n.
pub data LinesTold : ℕ → List (List ℕ) → List ℕ → Type 0 where
  none : {n : ℕ} → LinesTold n [] []
  next : {n : ℕ} {l : List ℕ} {ls : List (List ℕ)} {rest : List ℕ} (v : Verdict) → Judged l v → LinesTold (n + 1) ls rest → LinesTold n (l ∷ ls) (line_told n v ++ rest)

-- The last line: how many lines there are, and how many of them are faulty.
abbrev pub last_told : ℕ → ℕ → List ℕ
last_told n m = codes "LINES," ++ (decimal n ++ (codes ",FAULTS," ++ (decimal m ++ codes "\n")))

-- Of a text within the limit each line is told and then their numbers; of a longer one, only that it is refused.
pub record EachLineIsToldAsItWasUnderstood (bytes told : List ℕ) : Type 0 where
  pub within : Within bytes → (body : List ℕ) × (es : List FaultyLine) × LinesTold 1 (lines bytes) body × FaultyOnes 1 (lines bytes) es × (told ≡ body ++ last_told (length (lines bytes)) (length es))
  pub beyond : Beyond bytes → told ≡ fault_told 0 (text_number TooLong) 0
