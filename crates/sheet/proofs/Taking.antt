-- What the code takes by the field's case is the step, whatever the draft is.
use Rattle.std.proofs.Common.{◌≡◌, ℕ, ◌≤◌, List, [], length, Some, None, Ok, Err, Result, sym, refl, ap, ◌∙◌, subst, Bor, arith}
use Rattle.format.specs.declared.fault.SheetFault.{SheetFault}
use Rattle.format.specs.Content.{Limits}
use Rattle.sheet.specs.declared.field.Field.{Field}
use Rattle.sheet.specs.declared.field.Field.TheVariants.{Variable, Term}
use Rattle.sheet.specs.declared.gather.Gathered.{Gathered}
use Rattle.sheet.specs.declared.gather.Progress.{Progress}
use Rattle.sheet.specs.declared.gather.Progress.TheVariants.{More}
use Rattle.sheet.specs.declared.gather.State.{State}
use Rattle.numbers.specs.Rows.{Term as GivenTerm}
use Rattle.format.specs.Content.{GivenVariable, GivenRow}
use Rattle.format.specs.Written.{FieldKind, a_variable, a_term}
use Rattle.format.specs.Reading.{Draft, start, variables, tolerance, row, terms, Step, goes_on, ends, stops, step, variable_in, term_in, add_variable, add_term}
use Rattle.sheet.specs.Says.{kind_is, content_is}
use Rattle.sheet.specs.Gathering.{follows, Held, HeldOpen, Holds, Goes, Takes}
use Rattle.sheet.proofs.Filled.{variables_held}
use Rattle.format.proofs.Contents.{none_some}

pub goes_ok : (h : Gathered) (s : Step) → Goes (Ok tt) h s → Takes (Ok More) h s
goes_ok h (goes_on d) g = g
goes_ok h (ends c) g = g
goes_ok h (stops f) g = g

pub goes_err : (h : Gathered) (e : SheetFault) (s : Step) → Goes (Err e) h s → Takes (Err e) h s
goes_err h e (goes_on d) g = g
goes_err h e (ends c) g = g
goes_err h e (stops f) g = g

not_now : {X : Type 0} (g : Gathered) (s t : State) (k : FieldKind) → g.state ≡ t → Some s ≡ follows g.state k → follows t k ≡ None → X
not_now g s t k e h n = none_some s (sym (h ∙ ap (λ (u : State). follows u k) e ∙ n))

variable_any : (R : Step → Type 0) (g : Gathered) (d : Draft) (p : ℕ) (xs : List ℕ) (s : State) → Holds g d → Some s ≡ follows g.state a_variable
    → ((vs : List GivenVariable) → Held g vs [] → R (add_variable vs p (variable_in xs))) → R (step d p a_variable xs)
variable_any R g start p xs s h e f = f [] h.1
variable_any R g (variables vs) p xs s h e f = f vs h.1
variable_any R g (tolerance vs t) p xs s h e f = not_now g s _ a_variable h.0 e refl
variable_any R g (row vs t rs k) p xs s h e f = not_now g s _ a_variable h.0 e refl
variable_any R g (terms vs t rs k ts) p xs s h e f = not_now g s _ a_variable h.0 e refl

term_any : (R : Step → Type 0) (g : Gathered) (d : Draft) (p : ℕ) (xs : List ℕ) (s : State) → Holds g d → Some s ≡ follows g.state a_term
    → ((vs : List GivenVariable) (rs : List GivenRow) (k : Limits) (ts : List GivenTerm) → HeldOpen g vs rs k ts → R (add_term vs g.heading.tolerance rs k ts p (term_in xs))) → R (step d p a_term xs)
term_any R g start p xs s h e f = not_now g s _ a_term h.0 e refl
term_any R g (variables vs) p xs s h e f = not_now g s _ a_term h.0 e refl
term_any R g (tolerance vs t) p xs s h e f = not_now g s _ a_term h.0 e refl
term_any R g (row vs t rs k) p xs s h e f = subst (λ (u : ℕ). R (add_term vs u rs k [] p (term_in xs))) h.2 (f vs rs k [] h.1)
term_any R g (terms vs t rs k ts) p xs s h e f = subst (λ (u : ℕ). R (add_term vs u rs k ts p (term_in xs))) h.2 (f vs rs k ts h.1)

-- no draft has more than eight variables
pub holds_few : (g : Gathered) (d : Draft) → Holds g d → length g.heading.variables.items ≤ 8
holds_few g start h = let e = variables_held g [] [] h.1 in omega arith
holds_few g (variables vs) h = let e = variables_held g vs [] h.1 in let f = h.1.few in omega arith
holds_few g (tolerance vs t) h = let e = variables_held g vs [] h.1 in let f = h.1.few in omega arith
holds_few g (row vs t rs k) h = let e = variables_held g vs _ h.1 in let f = h.1.few in omega arith
holds_few g (terms vs t rs k ts) h = let e = variables_held g vs _ h.1 in let f = h.1.few in omega arith

-- what was gathered, in another state
abbrev pub at_state : State → Gathered → Gathered
at_state s g = record { state = s; heading = g.heading; rows = g.rows; terms = g.terms }

held_at : (s : State) (g : Gathered) (vs : List GivenVariable) (rs : List GivenRow) → Held g vs rs → Held (at_state s g) vs rs
held_at s g vs rs h = record { few = h.few; variables = h.variables; few_rows = h.few_rows; rows = h.rows; short = h.short; terms = h.terms }

-- r: what the code answers when taking the field answers q
pub takes_variable : (r : Result Progress SheetFault) (q : Result (Unit {0}) SheetFault) (g h : Gathered) (p : ℕ) (x : Field) (b : Bor (List ℕ)) (s : State) → x ≡ Variable b → Some s ≡ follows g.state (kind_is x)
    → ((t : Step) → Goes q h t → Takes r h t)
    → ((vs : List GivenVariable) → Held (at_state s g) vs [] → Goes q h (add_variable vs p (variable_in b.now)))
    → (d : Draft) → Holds g d → Takes r h (step d p (kind_is x) (content_is x))
takes_variable r q g h p x b s e n c f d i =
    subst (λ (y : Field). Takes r h (step d p (kind_is y) (content_is y))) (sym e)
    (variable_any (λ t. Takes r h t) g d p b.now s i (n ∙ ap (λ (y : Field). follows g.state (kind_is y)) e) (λ vs held. c (add_variable vs p (variable_in b.now)) (f vs (held_at s g vs [] held))))

pub takes_term : (r : Result Progress SheetFault) (q : Result (Unit {0}) SheetFault) (g h : Gathered) (p : ℕ) (x : Field) (b : Bor (List ℕ)) (s : State) → x ≡ Term b → Some s ≡ follows g.state (kind_is x)
    → ((t : Step) → Goes q h t → Takes r h t)
    → ((vs : List GivenVariable) (rs : List GivenRow) (k : Limits) (ts : List GivenTerm) → HeldOpen (at_state s g) vs rs k ts → Goes q h (add_term vs g.heading.tolerance rs k ts p (term_in b.now)))
    → (d : Draft) → Holds g d → Takes r h (step d p (kind_is x) (content_is x))
takes_term r q g h p x b s e n c f d i =
    subst (λ (y : Field). Takes r h (step d p (kind_is y) (content_is y))) (sym e)
    (term_any (λ t. Takes r h t) g d p b.now s i (n ∙ ap (λ (y : Field). follows g.state (kind_is y)) e) (λ vs rs k ts held. c (add_term vs g.heading.tolerance rs k ts p (term_in b.now)) (f vs rs k ts (held_at s g vs _ held))))
