-- What the code has gathered, and the draft that it stands for.
use Rattle.std.specs.Prelude.{◌≡◌, ℕ, ◌≤◌, List, [], map, length, Some, None, Ok, Err, Option, Result}
use Rattle.std.specs.List.{AllByRecursion, flat_map}
use Rattle.format.specs.declared.fault.SheetFault.{SheetFault}
use Rattle.sheet.specs.declared.shape.Row.{Row}
use Rattle.sheet.specs.declared.gather.Gathered.{Gathered}
use Rattle.sheet.specs.declared.gather.Progress.{Progress}
use Rattle.sheet.specs.declared.gather.Progress.TheVariants.{More, Done}
use Rattle.sheet.specs.declared.gather.State.{State}
use Rattle.sheet.specs.declared.gather.State.TheVariants.{Start, Variables, Tolerance, Row as AtRow, Terms}
use Rattle.numbers.specs.Rows.{Term as GivenTerm}
use Rattle.format.specs.Content.{GivenVariable, GivenRow, Limits, Content}
use Rattle.format.specs.Written.{FieldKind, a_variable, a_tolerance, a_row, a_term, an_end}
use Rattle.format.specs.Reading.{Draft, start, variables, tolerance, row, terms, Step, goes_on, ends, stops, closed}
use Rattle.sheet.specs.Held.{variable_is, bounds_is, term_is, padded}

-- what may follow: the next state, or none
abbrev pub follows : State → FieldKind → Option State
follows Start a_variable = Some Variables
follows Start a_tolerance = None
follows Start a_row = None
follows Start a_term = None
follows Start an_end = None
follows Variables a_variable = Some Variables
follows Variables a_tolerance = Some Tolerance
follows Variables a_row = None
follows Variables a_term = None
follows Variables an_end = None
follows Tolerance a_variable = None
follows Tolerance a_tolerance = None
follows Tolerance a_row = Some AtRow
follows Tolerance a_term = None
follows Tolerance an_end = None
follows AtRow a_variable = None
follows AtRow a_tolerance = None
follows AtRow a_row = None
follows AtRow a_term = Some Terms
follows AtRow an_end = None
follows Terms a_variable = None
follows Terms a_tolerance = None
follows Terms a_row = Some AtRow
follows Terms a_term = Some Terms
follows Terms an_end = Some Terms

-- a row as the list of rows has it: what it asks, and how many terms are its own
pub record Head : Type 0 where
  pub limits : Limits
  pub own : ℕ

abbrev pub row_is : Row → Head
row_is r = record { limits = bounds_is r.bounds; own = r.own }

abbrev pub head_of : GivenRow → Head
head_of r = record { limits = r.limits; own = length r.terms }

-- a row's part of the list of terms
abbrev pub row_terms : GivenRow → List GivenTerm
row_terms r = map padded r.terms

-- the rows and the terms as their lists have them
abbrev pub heads_of : List GivenRow → List Head
heads_of rs = map head_of rs

abbrev pub terms_of : List GivenRow → List GivenTerm
terms_of rs = flat_map row_terms rs

-- the variables are vs, and the rows rs
pub record Held (g : Gathered) (vs : List GivenVariable) (rs : List GivenRow) : Type 0 where
  pub few : length vs ≤ 8
  pub variables : map variable_is g.heading.variables.items ≡ vs
  pub few_rows : length rs ≤ 16
  pub rows : map row_is g.rows.items ≡ heads_of rs
  pub short : AllByRecursion (λ r. length r.terms ≤ 12) rs
  pub terms : map term_is g.terms.items ≡ terms_of rs

-- the last row is of kind k, with the terms ts so far
abbrev pub HeldOpen : Gathered → List GivenVariable → List GivenRow → Limits → List GivenTerm → Type 0
HeldOpen g vs rs k ts = Held g vs (closed rs k ts)

pub record Open (g : Gathered) : Type 0 where
  pub vs : List GivenVariable
  pub rs : List GivenRow
  pub k : Limits
  pub ts : List GivenTerm
  pub held : HeldOpen g vs rs k ts

abbrev pub Holds : Gathered → Draft → Type 0
Holds g start = (g.state ≡ Start) × Held g [] []
Holds g (variables vs) = (g.state ≡ Variables) × Held g vs []
Holds g (tolerance vs t) = (g.state ≡ Tolerance) × Held g vs [] × (g.heading.tolerance ≡ t)
Holds g (row vs t rs k) = (g.state ≡ AtRow) × HeldOpen g vs rs k [] × (g.heading.tolerance ≡ t)
Holds g (terms vs t rs k ts) = (g.state ≡ Terms) × HeldOpen g vs rs k ts × (g.heading.tolerance ≡ t)

-- the code went on to what holds the draft that the step goes on to, or stopped with the step's fault
abbrev pub Goes : Result (Unit {0}) SheetFault → Gathered → Step → Type 0
Goes (Ok u) g (goes_on d) = Holds g d
Goes (Ok u) g (ends c) = ⊥
Goes (Ok u) g (stops f) = ⊥
Goes (Err e) g (goes_on d) = ⊥
Goes (Err e) g (ends c) = ⊥
Goes (Err e) g (stops f) = e ≡ f

-- some draft is held
pub record Drafted (g : Gathered) : Type 0 where
  pub d : Draft
  pub holds : Holds g d

-- the whole content is held
pub record HoldsAll (g : Gathered) (c : Content) : Type 0 where
  pub held : Held g c.variables c.rows
  pub tolerance : g.heading.tolerance ≡ c.tolerance

abbrev pub Takes : Result Progress SheetFault → Gathered → Step → Type 0
Takes (Ok More) g (goes_on d) = Holds g d
Takes (Ok More) g (ends c) = ⊥
Takes (Ok More) g (stops f) = ⊥
Takes (Ok Done) g (goes_on d) = ⊥
Takes (Ok Done) g (ends c) = HoldsAll g c
Takes (Ok Done) g (stops f) = ⊥
Takes (Err e) g (goes_on d) = ⊥
Takes (Err e) g (ends c) = ⊥
Takes (Err e) g (stops f) = e ≡ f
