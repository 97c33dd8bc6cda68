-- The lines of a text, and the list of the faulty ones.
use Rattle.std.specs.Prelude.{◌≡◌, ℕ, ◌+◌, ◌<◌, ◌≤◌, cond, List, [], ◌∷◌, ◌++◌, length, ◌==◌}
use Rattle.std.specs.List.{onto_first}
use Rattle.bounded.specs.Entries.{Refilled, Stays}
use Rattle.bounded.specs.declared.Bounded.{Bounded}
use Rattle.script.specs.Format.{Meaning}
use Rattle.script.specs.Verdicts.{Judged, accepted, faulty}
use Rattle.script.specs.declared.faults.FaultyLine.{FaultyLine}
use Rattle.script.specs.declared.faults.LineFault.{LineFault}
use Rattle.script.specs.declared.lines.Lines.{Lines}

-- A text within the limit, and one beyond it.
abbrev pub Within : List ℕ → Type 0
Within bytes = length bytes ≤ 65536

abbrev pub Beyond : List ℕ → Type 0
Beyond bytes = 65536 < length bytes

-- The lines of a text: cut after each byte 10; bytes after the last one, if any, are a line too.
abbrev pub lines : List ℕ → List (List ℕ)
lines [] = []
lines (b ∷ bs) = cond (b == 10) ((b ∷ []) ∷ lines bs) (onto_first b (lines bs))

-- The lines that are still to come.
abbrev pub lines_left : Lines → List (List ℕ)
lines_left s = lines s.rest.now

-- These are the faulty ones of the lines, in order, each with its number; the first line has the number n.
pub data FaultyOnes : ℕ → List (List ℕ) → List FaultyLine → Type 0 where
  none : {n : ℕ} → FaultyOnes n [] []
  passed : {n : ℕ} {l : List ℕ} {ls : List (List ℕ)} {es : List FaultyLine} (m : Meaning) → Judged l (accepted m) → FaultyOnes (n + 1) ls es → FaultyOnes n (l ∷ ls) es
  told : {n : ℕ} {l : List ℕ} {ls : List (List ℕ)} {es : List FaultyLine} (f : LineFault) → Judged l (faulty f) → FaultyOnes (n + 1) ls es → FaultyOnes n (l ∷ ls) (record { line = n; fault = f } ∷ es)

-- The text begins with this line, which is not empty, and goes on with the rest.
pub record StartsWith (bytes line rest : List ℕ) : Type 0 where
  pub cut : lines bytes ≡ line ∷ lines rest
  pub whole : bytes ≡ line ++ rest
  pub some : 0 < length line

-- These are the faulty lines of the text and no others, so many, and the list has them as far as its places go.
pub record TheListIsExactlyTheFaultyLines (bytes : List ℕ) (before : Bounded FaultyLine) (n : ℕ) (after : Bounded FaultyLine) : Type 0 where
  pub within : Within bytes
  pub all : List FaultyLine
  pub faulty : FaultyOnes 1 (lines bytes) all
  pub alone : (es : List FaultyLine) → FaultyOnes 1 (lines bytes) es → es ≡ all
  pub count : n ≡ length all
  pub listed : Refilled before all after

-- The text is too long, and the list is as it was.
pub record RefusedUntouched (bytes : List ℕ) (before after : Bounded FaultyLine) : Type 0 where
  pub beyond : Beyond bytes
  pub untouched : Stays before after
