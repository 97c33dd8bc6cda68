-- The line format: which bytes are the line of which command, and what is wrong with any other line.
use Rattle.std.specs.Prelude.{◌≡◌, ℕ, zero, suc, ◌+◌, ◌/◌, ◌%◌, ◌≤◌, Bool, cond, ◌⊎◌, List, [], ◌∷◌, ◌++◌, map, length, codes, decimal, ◌==◌, ◌≢◌}
use Rattle.std.specs.List.{AllByRecursion}
use Rattle.script.specs.declared.command.Command.{Command}
use Rattle.script.specs.declared.command.Command.TheVariants as command
use Rattle.script.specs.declared.command.Word.{Word}
use Rattle.script.specs.declared.command.Word.TheVariants.{Hall, PumpType, Add, Withdraw, Take, Shut, Open, Report, Note}
use Rattle.script.specs.declared.faults.LineFault.{LineFault}
use Rattle.script.specs.declared.faults.LineFault.TheVariants.{Malformed, UnknownWord, FieldCount, BadField}

-- Words and fields

-- The command words.
abbrev pub name : Word → List ℕ
name Hall = codes "HALL"
name PumpType = codes "TYPE"
name Add = codes "ADD"
name Withdraw = codes "WITHDRAW"
name Take = codes "TAKE"
name Shut = codes "SHUT"
name Open = codes "OPEN"
name Report = codes "REPORT"
name Note = codes "NOTE"

-- The forms that a field can have.
pub data Form : Type 0 where
  number count mask text : Form

-- The fields that follow a word, in their order.
abbrev pub shape : Word → List Form
shape Hall = number ∷ number ∷ []
shape PumpType = mask ∷ []
shape Add = number ∷ count ∷ []
shape Withdraw = number ∷ count ∷ []
shape Take = number ∷ []
shape Shut = number ∷ []
shape Open = number ∷ []
shape Report = []
shape Note = text ∷ []

-- What a field stands for: a number, a mark for each rig from rig 0 on, or the bytes themselves.
abbrev pub Value : Form → Type 0
Value number = ℕ
Value count = ℕ
Value mask = List Bool
Value text = List ℕ

-- A byte that is not a comma, and bytes that have none.
abbrev pub NotComma : ℕ → Type 0
NotComma b = b ≡ 44 → ⊥

abbrev pub Commaless : List ℕ → Type 0
Commaless bs = AllByRecursion NotComma bs

-- The values that a field may have.
abbrev pub Fit : (s : Form) → Value s → Type 0
Fit number n = n ≤ 65535
Fit count n = (1 ≤ n) × (n ≤ 4096)
Fit mask ms = (1 ≤ length ms) × (length ms ≤ 64)
Fit text t = Commaless t

-- How a value is written: a number in decimal without needless zeros, a mark as 1 or 0, a text as it is.
abbrev pub shown : (s : Form) → Value s → List ℕ
shown number n = decimal n
shown count n = decimal n
shown mask ms = map (λ m. cond m 49 48) ms
shown text t = t

-- Value, Fit and shown for each field of a line, in order.
abbrev pub Values : List Form → Type 0
Values [] = Unit {0}
Values (s ∷ ss) = Value s × Values ss

abbrev pub AllFit : (ss : List Form) → Values ss → Type 0
AllFit [] vs = Unit {0}
AllFit (s ∷ ss) vs = Fit s vs.0 × AllFit ss vs.1

abbrev pub shown_all : (ss : List Form) → Values ss → List (List ℕ)
shown_all [] vs = []
shown_all (s ∷ ss) vs = shown s vs.0 ∷ shown_all ss vs.1

-- Commands and their lines

-- A command is its word and its fields' values.
abbrev pub Meaning : Type 0
Meaning = (w : Word) × Values (shape w)

abbrev pub fields : Meaning → List (List ℕ)
fields m = shown_all (shape m.0) m.1

-- Fields, each after its comma.
abbrev pub commas : List (List ℕ) → List ℕ
commas [] = []
commas (f ∷ fs) = 44 ∷ (f ++ commas fs)

-- A command's line before its end byte: the word, and each field after a comma.
abbrev pub front : Meaning → List ℕ
front m = name m.0 ++ commas (fields m)

-- A command's line, end byte included.
abbrev pub line : Meaning → List ℕ
line m = front m ++ 10 ∷ []

-- The first n marks of a set of rigs in which rig r counts 2 to the power r.
abbrev pub marks : ℕ → ℕ → List Bool
marks zero set = []
marks (suc n) set = ((set % 2) == 1) ∷ marks n (set / 2)

-- What a command of the program says.
abbrev pub meaning : Command → Meaning
meaning (command.Hall r t) = (Hall, (r, (t, tt)))
meaning (command.PumpType m) = (PumpType, (marks m.rigs m.set, tt))
meaning (command.Add t n) = (Add, (t, (n, tt)))
meaning (command.Withdraw t n) = (Withdraw, (t, (n, tt)))
meaning (command.Take r) = (Take, (r, tt))
meaning (command.Shut r) = (Shut, (r, tt))
meaning (command.Open r) = (Open, (r, tt))
meaning command.Report = (Report, tt)
meaning (command.Note t) = (Note, (t.now, tt))

-- Lines, accepted and faulty

-- A byte from 32 to 126.
abbrev pub Printable : ℕ → Type 0
Printable b = (32 ≤ b) × (b ≤ 126)

-- The line is these bytes, at most 80 and all printable, and then the end byte.
pub record WellFormed (l bytes : List ℕ) : Type 0 where
  pub ended : l ≡ bytes ++ 10 ∷ []
  pub short : length bytes ≤ 80
  pub printable : AllByRecursion Printable bytes

-- The line is well formed and is the line of this command, all of whose values are in range.
pub record Accepted (l : List ℕ) (m : Meaning) : Type 0 where
  pub fit : AllFit (shape m.0) m.1
  pub form : WellFormed l (front m)

-- The line is well formed, and parted at its commas it is this first field and these others.
pub record Parted (l first : List ℕ) (others : List (List ℕ)) : Type 0 where
  pub form : WellFormed l (first ++ commas others)
  pub commaless : Commaless first × AllByRecursion Commaless others

-- A field in form and in range: some fit value is written so.
abbrev pub Good : Form → List ℕ → Type 0
Good s f = (v : Value s) × Fit s v × (f ≡ shown s v)

-- Field k is the leftmost that is not good; the fields listed are numbered from i.
abbrev pub FirstBad : List Form → List (List ℕ) → ℕ → ℕ → Type 0
FirstBad [] fs i k = ⊥
FirstBad (s ∷ ss) [] i k = ⊥
FirstBad (s ∷ ss) (f ∷ fs) i k = ((k ≡ i) × (Good s f → ⊥)) ⊎ (Good s f × FirstBad ss fs (i + 1) k)

-- The line has this fault. Each fault presupposes that none before it holds.
abbrev pub Faulty : List ℕ → LineFault → Type 0
Faulty l Malformed = (bytes : List ℕ) → WellFormed l bytes → ⊥
Faulty l UnknownWord = (f : List ℕ) × (fs : List (List ℕ)) × Parted l f fs × ((w : Word) → f ≢ name w)
Faulty l FieldCount = (w : Word) × (fs : List (List ℕ)) × Parted l (name w) fs × (length fs ≢ length (shape w))
Faulty l (BadField k) =
    (w : Word) × (fs : List (List ℕ)) × Parted l (name w) fs × (length fs ≡ length (shape w)) × FirstBad (shape w) fs 2 k
