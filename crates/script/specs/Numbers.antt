-- The numbers by which refusals are told, and the field that a fault names.
use Rattle.std.specs.Prelude.{ℕ}
use Rattle.script.specs.declared.faults.LineFault.{LineFault}
use Rattle.script.specs.declared.faults.LineFault.TheVariants as fault
use Rattle.script.specs.declared.writing.WriteRefusal.{WriteRefusal}
use Rattle.script.specs.declared.writing.WriteRefusal.TheVariants as unwritten
use Rattle.script.specs.declared.checking.TextRefusal.{TextRefusal}
use Rattle.script.specs.declared.checking.TextRefusal.TheVariants as unchecked

abbrev pub fault_number : LineFault → ℕ
fault_number fault.Malformed = 8
fault_number fault.UnknownWord = 9
fault_number fault.FieldCount = 10
fault_number (fault.BadField k) = 11

-- The command word is field 1; 0 stands for the line as a whole.
abbrev pub fault_field : LineFault → ℕ
fault_field fault.Malformed = 0
fault_field fault.UnknownWord = 1
fault_field fault.FieldCount = 0
fault_field (fault.BadField k) = k

abbrev pub write_number : WriteRefusal → ℕ
write_number unwritten.Malformed = 8
write_number unwritten.FieldCount = 10
write_number unwritten.BadField = 11
write_number unwritten.NoRoom = 12

abbrev pub text_number : TextRefusal → ℕ
text_number unchecked.TooLong = 7
