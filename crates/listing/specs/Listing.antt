-- The line that lists a field: its place, its bytes in hexadecimal as they are meant, and what they say in words.
use Rattle.std.specs.Prelude.{ℕ, zero, suc, ◌/◌, ◌%◌, cond, List, [], ◌∷◌, ◌++◌, map, length, take, drop, Some, None, codes, decimal, Option, nat_lt}
use Rattle.std.specs.List.{flat_map}
use Rattle.std.specs.Fmt.{signed_decimal}
use Rattle.line.specs.Lines.{hexadecimal, padding}
use Rattle.numbers.specs.Rows.{Term}
use Rattle.format.specs.Content.{GivenVariable, Limits}
use Rattle.sheet.specs.Words.{asked_words}
use Rattle.format.specs.Written.{FieldKind, a_variable, a_tolerance, a_row, a_term, an_end, tag}
use Rattle.format.specs.Reading.{number_in, variable_in, limits_in, term_in, is_letter}

-- the line with spaces up to a column
abbrev pub padded_to : ℕ → List ℕ → List ℕ
padded_to column line = line ++ padding column line

-- the bytes in hexadecimal
abbrev pub hexes : List ℕ → List ℕ
hexes xs = flat_map hexadecimal xs

-- in groups of these sizes, each behind a space, and what is left as the last group
abbrev pub grouped : List ℕ → List ℕ → List ℕ
grouped [] [] = []
grouped [] (x ∷ xs) = 32 ∷ hexes (x ∷ xs)
grouped (s ∷ ss) xs = (32 ∷ hexes (take s xs)) ++ grouped ss (drop s xs)

-- what a field's bytes are meant as: three counts and a name; a number; a kind and its counts; a count and the exponents
abbrev pub sizes : FieldKind → List ℕ
sizes a_variable = 4 ∷ 4 ∷ 4 ∷ []
sizes a_tolerance = 4 ∷ []
sizes a_row = 1 ∷ 4 ∷ []
sizes a_term = 4 ∷ []
sizes an_end = []

-- the tag, the length in two bytes, and the groups
abbrev pub part_bytes : ℕ → List ℕ → List ℕ → List ℕ
part_bytes t ss xs = hexes (t ∷ []) ++ ((32 ∷ []) ++ (hexes ((length xs / 256 % 256) ∷ (length xs % 256) ∷ []) ++ grouped ss xs))

abbrev pub field_bytes : FieldKind → List ℕ → List ℕ
field_bytes k xs = part_bytes (tag k) (sizes k) xs

-- a byte of a name, or a question mark for one that a name cannot have
abbrev pub name_byte : ℕ → ℕ
name_byte b = cond (is_letter b) b 63

abbrev pub values_words : GivenVariable → List ℕ
values_words v = codes " from " ++ (signed_decimal v.lo ++ (codes " to " ++ (signed_decimal v.hi ++ (codes ", nominal " ++ signed_decimal v.nominal))))

abbrev pub variable_words : GivenVariable → List ℕ
variable_words v = codes "variable " ++ (map name_byte v.name ++ values_words v)

abbrev pub row_words : Option Limits → List ℕ
row_words None = codes "row of no kind"
row_words (Some k) = codes "row " ++ asked_words k

-- power 1 is the name alone
abbrev pub exponent_words : ℕ → List ℕ
exponent_words e = cond (nat_lt e 2) [] (94 ∷ decimal e)

-- a variable that does not occur is not told
abbrev pub power_words : List ℕ → ℕ → List ℕ
power_words name zero = []
power_words name (suc e) = 32 ∷ (name ++ exponent_words (suc e))

abbrev pub powers_words : List (List ℕ) → List ℕ → List ℕ
powers_words [] es = []
powers_words (n ∷ ns) [] = []
powers_words (n ∷ ns) (e ∷ es) = power_words n e ++ powers_words ns es

abbrev pub coefficient_words : Term → List ℕ
coefficient_words t = codes "term " ++ signed_decimal t.coefficient

abbrev pub term_words : List (List ℕ) → Term → List ℕ
term_words names t = coefficient_words t ++ powers_words names t.exponents

abbrev pub tolerance_words : List ℕ → List ℕ
tolerance_words xs = codes "tolerance " ++ decimal (number_in xs)

-- names: those of the variables before
abbrev pub words : List (List ℕ) → FieldKind → List ℕ → List ℕ
words names a_variable xs = variable_words (variable_in xs)
words names a_tolerance xs = tolerance_words xs
words names a_row xs = row_words (limits_in xs)
words names a_term xs = term_words names (term_in xs)
words names an_end xs = codes "end"

abbrev pub field_line : List (List ℕ) → ℕ → FieldKind → List ℕ → List ℕ
field_line names p k xs = padded_to 60 (padded_to 6 (decimal p) ++ field_bytes k xs) ++ words names k xs

-- what an accepted sheet has
abbrev pub accepted_line : ℕ → ℕ → ℕ → ℕ → List ℕ
accepted_line variables rows terms bytes = codes "ACCEPTED VARIABLES " ++ (decimal variables ++ (codes " ROWS " ++ (decimal rows ++ (codes " TERMS " ++ (decimal terms ++ (codes " BYTES " ++ decimal bytes))))))
