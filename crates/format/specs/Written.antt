-- The bytes of a sheet, high byte first.
use Rattle.std.specs.Prelude.{ℕ, ◌/◌, ◌%◌, List, [], ◌∷◌, ◌++◌, length, ℤ}
use Rattle.std.proofs.Common.{of_z}
use Rattle.std.specs.Int.{w32}
use Rattle.std.specs.List.{flat_map}
use Rattle.format.specs.Content.{Limits, at_least, at_most, between, GivenVariable, GivenRow, Content}
use Rattle.numbers.specs.Rows.{Term}

-- a number in four bytes
abbrev pub four : ℕ → List ℕ
four v = (v / 16777216 % 256) ∷ (v / 65536 % 256) ∷ (v / 256 % 256) ∷ (v % 256) ∷ []

-- a count in four bytes, signed
abbrev pub count_bytes : ℤ → List ℕ
count_bytes z = four (of_z w32 z)

-- the five kinds of field, and their tags
pub data FieldKind : Type 0 where
  a_variable : FieldKind
  a_tolerance : FieldKind
  a_row : FieldKind
  a_term : FieldKind
  an_end : FieldKind

abbrev pub tag : FieldKind → ℕ
tag a_variable = 1
tag a_tolerance = 4
tag a_row = 2
tag a_term = 3
tag an_end = 9

-- a field: its tag, two length bytes, and what follows
abbrev pub field : FieldKind → List ℕ → List ℕ
field k content = tag k ∷ (length content / 256) ∷ (length content % 256) ∷ content

abbrev pub variable_content : GivenVariable → List ℕ
variable_content v = count_bytes v.lo ++ (count_bytes v.hi ++ (count_bytes v.nominal ++ v.name))

abbrev pub limits_content : Limits → List ℕ
limits_content (at_least lo) = 1 ∷ count_bytes lo
limits_content (at_most hi) = 2 ∷ count_bytes hi
limits_content (between lo hi) = 3 ∷ (count_bytes lo ++ count_bytes hi)

abbrev pub term_content : Term → List ℕ
term_content t = count_bytes t.coefficient ++ t.exponents

abbrev pub variables_written : List GivenVariable → List ℕ
variables_written vs = flat_map (λ v. field a_variable (variable_content v)) vs

abbrev pub terms_written : List Term → List ℕ
terms_written ts = flat_map (λ t. field a_term (term_content t)) ts

abbrev pub row_written : GivenRow → List ℕ
row_written r = field a_row (limits_content r.limits) ++ terms_written r.terms

abbrev pub rows_written : List GivenRow → List ℕ
rows_written rs = flat_map row_written rs

abbrev pub written : Content → List ℕ
written c = variables_written c.variables ++ (field a_tolerance (four c.tolerance) ++ (rows_written c.rows ++ field an_end []))
