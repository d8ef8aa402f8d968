-- The numbers and places of the refusals.
use Rattle.std.specs.Prelude.{ℕ}
use Rattle.format.specs.declared.fault.FieldFault.{FieldFault}
use Rattle.format.specs.declared.fault.FieldFault.TheVariants.{Short, UnknownTag, WrongLength}
use Rattle.format.specs.declared.fault.SheetFault.{SheetFault}
use Rattle.format.specs.declared.fault.SheetFault.TheVariants.{TooLong, Field, NotAllowed, TooMany, OutOfRange, NameTaken, Trailing, NoRoom}

abbrev pub field_number : FieldFault → ℕ
field_number (Short p) = 2
field_number (UnknownTag p) = 3
field_number (WrongLength p) = 5

abbrev pub field_place : FieldFault → ℕ
field_place (Short p) = p
field_place (UnknownTag p) = p
field_place (WrongLength p) = p

abbrev pub number : SheetFault → ℕ
number TooLong = 1
number (Field f) = field_number f
number (NotAllowed p) = 4
number (TooMany p) = 7
number (OutOfRange p) = 6
number (NameTaken p) = 8
number (Trailing p) = 10
number (NoRoom p) = 9

abbrev pub place : SheetFault → ℕ
place TooLong = 4096
place (Field f) = field_place f
place (NotAllowed p) = p
place (TooMany p) = p
place (OutOfRange p) = p
place (NameTaken p) = p
place (Trailing p) = p
place (NoRoom p) = p
