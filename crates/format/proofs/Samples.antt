-- Sheets read by computing.
use Rattle.std.proofs.Common.{◌≡◌, ℕ, List, [], ◌∷◌, ◌++◌, pos, Ok, Err, refl}
use Rattle.format.specs.Content.{at_most, Content}
use Rattle.format.specs.declared.fault.SheetFault.TheVariants.{Field, NotAllowed, Trailing, NoRoom}
use Rattle.format.specs.declared.fault.FieldFault.TheVariants.{Short}
use Rattle.format.specs.Reading.{reading, whole, read_sheet}

abbrev front : List ℕ
front = 1 ∷ 0 ∷ 13 ∷ 0 ∷ 0 ∷ 0 ∷ 0 ∷ 0 ∷ 2 ∷ 0 ∷ 0 ∷ 0 ∷ 1 ∷ 0 ∷ 0 ∷ 65 ∷ 4 ∷ 0 ∷ 4 ∷ 0 ∷ 0 ∷ 128 ∷ 0 ∷ 2 ∷ 0 ∷ 5 ∷ 2 ∷ 0 ∷ 2 ∷ 0 ∷ 0 ∷ 3 ∷ 0 ∷ 5 ∷ 0 ∷ 1 ∷ 0 ∷ 0 ∷ 2 ∷ []

abbrev says : Content
says = record { variables = record { lo = pos 0; hi = pos 131072; nominal = pos 65536; name = 65 ∷ [] } ∷ []; tolerance = 32768; rows = record { limits = at_most (pos 131072); terms = record { coefficient = pos 65536; exponents = 2 ∷ [] } ∷ [] } ∷ [] }

sample : read_sheet (front ++ 9 ∷ 0 ∷ 0 ∷ []) 1 1 ≡ Ok says
unfolding read_sheet whole reading
sample = refl

no_room : read_sheet (front ++ 9 ∷ 0 ∷ 0 ∷ []) 1 0 ≡ Err (NoRoom 42)
unfolding read_sheet whole reading
no_room = refl

trailing : read_sheet (front ++ 9 ∷ 0 ∷ 0 ∷ 7 ∷ []) 1 0 ≡ Err (Trailing 42)
unfolding read_sheet whole reading
trailing = refl

short : read_sheet front 1 1 ≡ Err (Field (Short 39))
unfolding read_sheet whole reading
short = refl

again : read_sheet (front ++ front) 1 1 ≡ Err (NotAllowed 39)
unfolding read_sheet whole reading
again = refl

none : read_sheet [] 1 1 ≡ Err (Field (Short 0))
unfolding read_sheet whole reading
none = refl
