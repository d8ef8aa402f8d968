-- What a sheet holds after a call of read.
use Rattle.std.specs.Prelude.{◌≡◌, ℕ, ◌-◌, List, ◌++◌, map, length, replicate, ℤ, Ok, Err, Result}
use Rattle.std.specs.Borrow.{Bor}
use Rattle.list.specs.Lists.{items, room}
use Rattle.span.specs.declared.shape.Span.{Span}
use Rattle.format.specs.declared.fault.SheetFault.{SheetFault}
use Rattle.format.specs.Content.{Content}
use Rattle.format.specs.Theorem.{Says}
use Rattle.sheet.specs.declared.sheet.Sheet.{Sheet}
use Rattle.sheet.specs.declared.variable.Variable.{Variable}
use Rattle.sheet.specs.Held.{variable_is, term_is}
use Rattle.sheet.specs.Gathering.{row_is, heads_of, terms_of}

-- the variables that a sheet holds
abbrev pub variables_of : Sheet → List Variable
variables_of s = s.heading.variables.items

-- s held what it held, t holds the content c in the same places
pub record Replaced (s t : Sheet) (c : Content) : Type 0 where
  pub variables : map variable_is (variables_of t) ≡ c.variables
  pub tolerance : t.heading.tolerance ≡ c.tolerance
  pub rows : map row_is (items t.rows) ≡ heads_of c.rows
  pub terms : map term_is (items t.terms) ≡ terms_of c.rows
  pub row_places : room t.rows ≡ room s.rows
  pub term_places : room t.terms ≡ room s.terms

-- accepted: the content is held; refused: with that fault, and all is as it was
abbrev pub SheetSays : Sheet → Sheet → Result Content SheetFault → Result (Unit {0}) SheetFault → Type 0
SheetSays s t (Ok c) (Ok u) = Replaced s t c
SheetSays s t (Ok c) (Err e) = ⊥
SheetSays s t (Err f) (Ok u) = ⊥
SheetSays s t (Err f) (Err e) = (e ≡ f) × (t ≡ s)

-- the same by the sheet as it is written: accepted exactly if it says some content that fits, and then that is held
abbrev pub Means : Sheet → Sheet → List ℕ → Result (Unit {0}) SheetFault → Type 0
Means s t xs (Ok u) = (c : Content) × (Says xs (room s.rows) (room s.terms) c × Replaced s t c)
Means s t xs (Err e) = ((c : Content) → Says xs (room s.rows) (room s.terms) c → ⊥) × (t ≡ s)

-- the span and the nominal of a variable
abbrev pub span_of : Variable → Span
span_of v = v.span

abbrev pub nominal_of : Variable → ℤ
nominal_of v = v.nominal

-- in the first of eight places, and z in the others
abbrev pub filled : {A : Type 0} → A → List A → List A
filled z xs = xs ++ replicate (8 - length xs) z

-- filled with what a call takes from each variable, by whatever function of the variable it takes
abbrev pub FilledBy : {T : Type 0} → (Bor Variable → T → Type 0) → T → List Variable → List T → Type 0
FilledBy {T} takes z vs xs = (f : Variable → T) → ((v : Bor Variable) (x : T) → takes v x → x ≡ f v.now) → xs ≡ filled z (map f vs)
