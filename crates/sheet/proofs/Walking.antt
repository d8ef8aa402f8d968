-- One turn of the walk over the fields.
use Rattle.std.proofs.Common.{◌≡◌, ℕ, ◌+◌, ◌-◌, ◌<◌, ◌≤◌, List, [], ◌∷◌, length, Ok, Err, Result, sym, refl, ap, ◌∙◌, subst, arith}
use Rattle.format.specs.declared.fault.FieldFault.{FieldFault}
use Rattle.format.specs.declared.fault.SheetFault.{SheetFault}
use Rattle.format.specs.declared.fault.SheetFault.TheVariants.{Field, Trailing}
use Rattle.sheet.specs.declared.gather.Gathered.{Gathered}
use Rattle.sheet.specs.declared.gather.Progress.{Progress}
use Rattle.sheet.specs.declared.gather.Progress.TheVariants.{More, Done}
use Rattle.format.specs.Content.{Content}
use Rattle.format.specs.Written.{FieldKind}
use Rattle.format.specs.Fields.{Cut, read_field}
use Rattle.format.specs.Reading.{Draft, start, variables, tolerance, row, terms, variable_count, Step, goes_on, ends, stops, step, ended, after_step, after_field, whole}
use Rattle.sheet.specs.Gathering.{Holds, Takes}
use Rattle.sheet.specs.Walk.{ContentSays, Leads}
use Rattle.sheet.proofs.Filled.{variables_held}
use Rattle.format.proofs.Cuts.{whole_is, length_cut}

pub holds_count : (g : Gathered) (d : Draft) → Holds g d → length g.heading.variables.items ≡ variable_count d
holds_count g start h = variables_held g [] [] h.1
holds_count g (variables vs) h = variables_held g vs [] h.1
holds_count g (tolerance vs t) h = variables_held g vs [] h.1
holds_count g (row vs t rs k) h = variables_held g vs _ h.1
holds_count g (terms vs t rs k ts) h = variables_held g vs _ h.1

says_err : (e : SheetFault) (r : Result Content SheetFault) → Err e ≡ r → ContentSays (Err e) r
says_err e r h = subst (ContentSays (Err e)) h refl

-- n: how many variables were read
module _ (g : Gathered) (p : ℕ) (rest : List ℕ) (r : Result Content SheetFault) (l : Leads g p rest r) (n : ℕ) (n-is : n ≡ length g.heading.variables.items) where
  goes : (c : Result Cut FieldFault) → c ≡ read_field n p rest → after_field whole p l.d c ≡ r
  goes c e = ap (after_field whole p l.d) (e ∙ ap (λ (m : ℕ). read_field m p rest) (n-is ∙ holds_count g l.d l.holds)) ∙ sym (whole_is p rest l.d) ∙ l.to

  pub leads_fault : (f : FieldFault) → Err f ≡ read_field n p rest → ContentSays (Err (Field f)) r
  leads_fault f e = says_err (Field f) r (goes (Err f) e)

module _ (h : Gathered) (q : ℕ) (rest : List ℕ) (r : Result Content SheetFault) where
  step_more : (s : Step) → Takes (Ok More) h s → after_step whole q rest s ≡ r → Leads h q rest r
  step_more (goes_on d) t e = record { d = d; holds = t; to = e }
  step_more (ends c) t e = absurd t
  step_more (stops f) t e = absurd t

  step_stop : (f : SheetFault) (s : Step) → Takes (Err f) h s → after_step whole q rest s ≡ r → ContentSays (Err f) r
  step_stop f (goes_on d) t e = absurd t
  step_stop f (ends c) t e = absurd t
  step_stop f (stops x) t e = says_err f r (ap Err t ∙ e)

  step_done : (s : Step) → Takes (Ok Done) h s → after_step whole q rest s ≡ r → length rest ≤ 0 → ContentSays (Ok h) r
  step_done (goes_on d) t e z = absurd t
  step_done (ends c) t e z = go rest e z
    where
      go : (ys : List ℕ) → ended c q ys ≡ r → length ys ≤ 0 → ContentSays (Ok h) r
      go [] i z = subst (ContentSays (Ok h)) i t
      go (y ∷ ys) i z = absurd (omega arith)
  step_done (stops f) t e z = absurd t

  step_trailing : (s : Step) → Takes (Ok Done) h s → after_step whole q rest s ≡ r → 0 < length rest → ContentSays (Err (Trailing q)) r
  step_trailing (goes_on d) t e z = absurd t
  step_trailing (ends c) t e z = go rest e z
    where
      go : (ys : List ℕ) → ended c q ys ≡ r → 0 < length ys → ContentSays (Err (Trailing q)) r
      go [] i z = absurd (omega arith)
      go (y ∷ ys) i z = says_err (Trailing q) r i
  step_trailing (stops f) t e z = absurd t

-- all is the sheet's length, and the place what was read of it
module _ (g h : Gathered) (all : ℕ) (rest : List ℕ) (r : Result Content SheetFault) (l : Leads g (all - length rest) rest r) (within : length rest ≤ all) (n : ℕ) (n-is : n ≡ length g.heading.variables.items) (x : Cut) (e : Ok x ≡ read_field n (all - length rest) rest) where
  next_place : (all - length rest) + (3 + length x.content) ≡ all - length x.rest
  next_place = let m = length_cut n (all - length rest) rest x (sym e) in omega arith

  to_next : after_step whole (all - length x.rest) x.rest (step l.d (all - length rest) x.kind x.content) ≡ r
  to_next = ap (λ (q : ℕ). after_step whole q x.rest (step l.d (all - length rest) x.kind x.content)) (sym next_place) ∙ goes g (all - length rest) rest r l n n-is (Ok x) e

  pub shorter_next : length x.rest < length rest
  shorter_next = let m = length_cut n (all - length rest) rest x (sym e) in omega arith

  pub leads_more : ((d : Draft) → Holds g d → Takes (Ok More) h (step d (all - length rest) x.kind x.content)) → Leads h (all - length x.rest) x.rest r
  leads_more t = step_more h (all - length x.rest) x.rest r (step l.d (all - length rest) x.kind x.content) (t l.d l.holds) to_next

  pub leads_stop : (f : SheetFault) → ((d : Draft) → Holds g d → Takes (Err f) h (step d (all - length rest) x.kind x.content)) → ContentSays (Err f) r
  leads_stop f t = step_stop h (all - length x.rest) x.rest r f (step l.d (all - length rest) x.kind x.content) (t l.d l.holds) to_next

  pub leads_done : ((d : Draft) → Holds g d → Takes (Ok Done) h (step d (all - length rest) x.kind x.content)) → length x.rest ≤ 0 → ContentSays (Ok h) r
  leads_done t z = step_done h (all - length x.rest) x.rest r (step l.d (all - length rest) x.kind x.content) (t l.d l.holds) to_next z

  pub leads_trailing : ((d : Draft) → Holds g d → Takes (Ok Done) h (step d (all - length rest) x.kind x.content)) → 0 < length x.rest → ContentSays (Err (Trailing (all - length x.rest))) r
  leads_trailing t z = step_trailing h (all - length x.rest) x.rest r (step l.d (all - length rest) x.kind x.content) (t l.d l.holds) to_next z

pub as_progress : (o q : Progress) → o ≡ q → (h : Gathered) (s : Step) → Takes (Ok o) h s → Takes (Ok q) h s
as_progress o q e h s t = subst (λ (x : Progress). Takes (Ok x) h s) e t

-- the same field at the same place
pub placed_at : (r : Result Progress SheetFault) (g h : Gathered) (p q : ℕ) (k : FieldKind) (xs : List ℕ) → q ≡ p → ((d : Draft) → Holds g d → Takes r h (step d q k xs)) → (d : Draft) → Holds g d → Takes r h (step d p k xs)
placed_at r g h p q k xs e t = subst (λ (m : ℕ). (d : Draft) → Holds g d → Takes r h (step d m k xs)) e t
