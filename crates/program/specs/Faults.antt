-- How a program's fault is told.
use Rattle.std.specs.Prelude.{ℕ, List, ◌++◌, codes, decimal}
use Rattle.format.specs.declared.fault.SheetFault.{SheetFault}
use Rattle.format.specs.declared.fault.SheetFault.TheVariants.{TooLong, Field, NotAllowed, TooMany, OutOfRange, NameTaken, Trailing, NoRoom}
use Rattle.format.specs.Faults.{number, place}
use Rattle.line.specs.declared.shape.Reader.{Reader}
use Rattle.line.specs.declared.shape.Reader.TheVariants.{Field as ByField, Sheet as BySheet}
use Rattle.line.specs.declared.shape.Refusal.{Refusal}
use Rattle.line.specs.Refusals.{refusal_line}
use Rattle.program.specs.declared.fault.RunFault.{RunFault}
use Rattle.program.specs.declared.fault.RunFault.TheVariants.{NotOpened}
use Rattle.program.specs.declared.fault.ProgramFault.{ProgramFault}
use Rattle.program.specs.declared.fault.ProgramFault.TheVariants.{Sheet, Run, Memory}

-- the reader that gave it
abbrev pub given_by : SheetFault → Reader
given_by TooLong = BySheet
given_by (Field f) = ByField
given_by (NotAllowed p) = BySheet
given_by (TooMany p) = BySheet
given_by (OutOfRange p) = BySheet
given_by (NameTaken p) = BySheet
given_by (Trailing p) = BySheet
given_by (NoRoom p) = BySheet

abbrev pub refusal_of : SheetFault → Refusal
refusal_of f = record { number = number f; place = place f; reader = given_by f }

abbrev pub run_number : RunFault → ℕ
run_number NotOpened = 20

abbrev pub fault_text : ProgramFault → List ℕ
fault_text (Sheet f) = refusal_line (refusal_of f)
fault_text (Run f) = codes "REFUSED " ++ (decimal (run_number f) ++ codes " IN RUN")
fault_text Memory = codes "NO MEMORY"

-- with its newline
abbrev pub fault_line : ProgramFault → List ℕ
fault_line f = fault_text f ++ codes "\n"
