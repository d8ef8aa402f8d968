-- What the field reader's answers say, in the words of the format.
use Rattle.std.specs.Prelude.{◌≡◌, ℕ, List, [], Some, None, Ok, Err, Result}
use Rattle.std.specs.Borrow.{Bor}
use Rattle.format.specs.declared.fault.FieldFault.{FieldFault}
use Rattle.format.specs.Written.{FieldKind, a_variable, a_tolerance, a_row, a_term, an_end}
use Rattle.format.specs.Fields.{Cut, kind_of}
use Rattle.sheet.specs.declared.field.Field.{Field}
use Rattle.sheet.specs.declared.field.Field.TheVariants.{Variable, Tolerance, Row, Term, End}
use Rattle.sheet.specs.declared.field.Placed.{Placed}
use Rattle.sheet.specs.declared.field.Tag.{Tag}
use Rattle.sheet.specs.declared.field.Tag.TheVariants.{Variable as VariableTag, Row as RowTag, Term as TermTag, Tolerance as ToleranceTag, End as EndTag}
use Rattle.sheet.specs.declared.field.UnknownTag.{UnknownTag}

abbrev pub kind_is : Field → FieldKind
kind_is (Variable xs) = a_variable
kind_is (Tolerance xs) = a_tolerance
kind_is (Row xs) = a_row
kind_is (Term xs) = a_term
kind_is End = an_end

-- the kind that a tag is for
abbrev pub tag_kind : Tag → FieldKind
tag_kind VariableTag = a_variable
tag_kind RowTag = a_row
tag_kind TermTag = a_term
tag_kind ToleranceTag = a_tolerance
tag_kind EndTag = an_end

-- what a byte is read as: the tag of the kind that the format gives it, or it is no tag
abbrev pub TagOf : ℕ → Result Tag UnknownTag → Type 0
TagOf byte (Ok t) = kind_of byte ≡ Some (tag_kind t)
TagOf byte (Err e) = (kind_of byte ≡ None) × (e.0 ≡ byte)

abbrev pub content_is : Field → List ℕ
content_is (Variable xs) = xs.now
content_is (Tolerance xs) = xs.now
content_is (Row xs) = xs.now
content_is (Term xs) = xs.now
content_is End = []

abbrev pub cut_says : Result (Placed × Bor (List ℕ)) FieldFault → Result Cut FieldFault
cut_says (Err e) = Err e
cut_says (Ok x) = Ok (record { kind = kind_is x.0.field; content = content_is x.0.field; rest = x.1.now })

abbrev pub sort_says : Result Field FieldFault → List ℕ → Result Cut FieldFault
sort_says (Err e) rest = Err e
sort_says (Ok f) rest = Ok (record { kind = kind_is f; content = content_is f; rest = rest })
