-- What a program takes from its input, and what it prints of it.
use Rattle.std.specs.Prelude.{◌≡◌, ℕ, ◌<◌, List, Vec, length, Option, Ok, Err, Result}
use Rattle.std.specs.Io.KnownBytes.{Appends, Consumes, IsAtEnd}
use Rattle.program.specs.declared.fault.ProgramFault.{ProgramFault}
use Rattle.program.specs.Faults.{fault_line}

-- the front of the input: all of it, or as many bytes as there are places
abbrev pub Taken : ℕ → Option (List ℕ) → Option (List ℕ) → List ℕ → Type 0
Taken places old new sheet = Consumes old new sheet × (length sheet < places → IsAtEnd new)

-- what was made of the sheet is printed, or the line of the fault
abbrev pub Served : {A : Type 0} → Option (List ℕ) → Option (List ℕ) → Result (Vec ℕ A) ProgramFault → Result (Unit {0}) ProgramFault → Type 0
Served old new (Ok out) answer = Appends old new out.items × (answer ≡ Ok tt)
Served old new (Err f) answer = Appends old new (fault_line f) × (answer ≡ Err f)
