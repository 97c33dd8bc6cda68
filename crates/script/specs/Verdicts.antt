-- What reading and writing promise: one verdict for each line, one line for each command.
use Rattle.std.specs.Prelude.{◌≡◌, ℕ, ◌^◌, ◌<◌, ◌≤◌, List, ◌++◌, length, take, drop, Ok, Err, Result}
use Rattle.script.specs.Format.{Meaning, meaning, line, Accepted, Faulty}
use Rattle.script.specs.declared.command.Command.{Command}
use Rattle.script.specs.declared.command.Command.TheVariants as command
use Rattle.script.specs.declared.faults.LineFault.TheVariants.{Malformed, FieldCount, BadField}
use Rattle.script.specs.declared.faults.LineFault.{LineFault}
use Rattle.script.specs.declared.writing.WriteRefusal.{WriteRefusal}
use Rattle.script.specs.declared.writing.WriteRefusal.TheVariants as unwritten

-- A line is the line of a command, or has a fault.
pub data Verdict : Type 0 where
  accepted : Meaning → Verdict
  faulty : LineFault → Verdict

-- The verdict that the format gives.
abbrev pub Judged : List ℕ → Verdict → Type 0
Judged l (accepted m) = Accepted l m
Judged l (faulty f) = Faulty l f

-- What an answer of `read` says.
abbrev pub verdict : Result Command LineFault → Verdict
verdict (Ok c) = accepted (meaning c)
verdict (Err f) = faulty f

-- The mask of a command names no rig past its length.
abbrev pub Tidy : Command → Type 0
Tidy (command.PumpType m) = m.set < 2 ^ m.rigs
Tidy c = Unit {0}

-- The line has this verdict and no other: not another command, not another fault.
abbrev pub TheLineHasNoOtherVerdict : List ℕ → Verdict → Type 0
TheLineHasNoOtherVerdict l v = (u : Verdict) → Judged l u → u ≡ v

-- If the verdict is a command, no other line is accepted as that command.
abbrev pub AnAcceptedLineIsTheOnlyLineOfItsCommand : List ℕ → Verdict → Type 0
AnAcceptedLineIsTheOnlyLineOfItsCommand l v =
    (m : Meaning) → v ≡ accepted m → (other : List ℕ) → Accepted other m → other ≡ l

-- These bytes are judged to be this command, and nothing else.
pub record AWrittenCommandReadsBackAsItself (bytes : List ℕ) (m : Meaning) : Type 0 where
  pub reads : Judged bytes (accepted m)
  pub alone : TheLineHasNoOtherVerdict bytes (accepted m)

-- The first n bytes are the command's line and the later ones as they were; the bytes written read back as the command.
pub record Written (before : List ℕ) (m : Meaning) (n : ℕ) (after : List ℕ) : Type 0 where
  pub count : n ≡ length (line m)
  pub room : n ≤ length before
  pub bytes : after ≡ line m ++ drop n before
  pub back : AWrittenCommandReadsBackAsItself (take n after) m

-- Why a command is not written into `room` bytes: its line would be refused; or it would be accepted, but is longer than `room`.
abbrev pub Unwritten : Meaning → ℕ → WriteRefusal → Type 0
Unwritten m room unwritten.Malformed = Faulty (line m) Malformed
Unwritten m room unwritten.FieldCount = Faulty (line m) FieldCount
Unwritten m room unwritten.BadField = (k : ℕ) × Faulty (line m) (BadField k)
Unwritten m room unwritten.NoRoom = Accepted (line m) m × (room < length (line m))
