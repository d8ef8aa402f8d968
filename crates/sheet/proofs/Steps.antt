-- What the code leaves when it takes a field is what the step goes on to.
use Rattle.std.proofs.Common.{◌≡◌, ℕ, ◌+◌, ◌-◌, ◌<◌, ◌≤◌, true, false, cond, List, [], ◌∷◌, ◌++◌, map, length, get_or, set, Some, None, Ok, Err, Option, sym, refl, ap, ◌∙◌, subst, arith, length-append}
use Rattle.std.proofs.lemmas.Bool.{lt-leb, le-leb}
use Rattle.numbers.specs.Rows.{Term as GivenTerm}
use Rattle.format.specs.declared.fault.SheetFault.TheVariants.{TooMany, OutOfRange}
use Rattle.format.specs.declared.fault.SheetFault.{SheetFault}
use Rattle.arrayvec.specs.ArrayVec.{ArrayVec}
use Rattle.format.specs.Content.{GivenVariable, GivenRow, Limits}
use Rattle.format.specs.Reading.{Step, goes_on, stops, variables, row, terms, good_variable, good_term, good_limits, taken, add_variable, kept_limits, add_row, add_term}
use Rattle.sheet.specs.Fews.{Few}
use Rattle.sheet.specs.declared.shape.Bounds.{Bounds}
use Rattle.sheet.specs.declared.shape.Row.{Row}
use Rattle.sheet.specs.declared.shape.Term.{Term}
use Rattle.sheet.specs.declared.variable.Variable.{Variable}
use Rattle.sheet.specs.declared.gather.Gathered.{Gathered}
use Rattle.sheet.specs.declared.gather.State.TheVariants.{Variables, Row as AtRow, Terms}
use Rattle.sheet.specs.Held.{readable, name_is, variable_is, bounds_is, term_is, padded}
use Rattle.sheet.specs.Gathering.{Held, HeldOpen, Goes, Head, row_is, head_of}
use Rattle.sheet.proofs.Decoding.{cond_none, cond_some}
use Rattle.sheet.proofs.Filled.{with_variables, with_rows, with_terms, variables_held, rows_held, few_terms, last_row, held_variable, held_row, held_term}

abbrev going : Gathered → Step → Type 0
going h s = Goes (Ok tt) h s

abbrev stopping : SheetFault → Gathered → Step → Type 0
stopping f h s = Goes (Err f) h s

-- a variable: v is what the code decoded of what the content gives
pub variable_goes : (g : Gathered) (vs : List GivenVariable) → Held g vs [] → (w : Few Variable) (p : ℕ) (v : Variable) (x : GivenVariable) → g.state ≡ Variables → length g.heading.variables.items < 8
    → Some (variable_is v) ≡ cond (good_variable x) (Some x) None → false ≡ taken (name_is v.name) (map variable_is g.heading.variables.items) → w.items ≡ g.heading.variables.items ++ v ∷ []
    → Goes (Ok tt) (with_variables g w) (add_variable vs p x)
variable_goes g vs held w p v x state-is few e free is =
    let n = variables_held g vs [] held in
    let q = cond_some (good_variable x) x (variable_is v) e in
    let good : good_variable (variable_is v) ≡ true = ap good_variable q.1 ∙ q.0 in
    let s : add_variable vs p (variable_is v) ≡ goes_on (variables (vs ++ variable_is v ∷ [])) =
    rw (lt-leb 8 (length vs) (omega arith), good, ap (taken (name_is v.name)) (sym held.variables) ∙ sym free) in
    subst (going (with_variables g w)) (sym (ap (add_variable vs p) (sym q.1) ∙ s)) (state-is, held_variable g vs [] held w v (omega arith) is)

-- a row: b is what the code decoded of what the content gives
kept_some : (vs : List GivenVariable) (t : ℕ) (rs : List GivenRow) (p : ℕ) (k : Limits) (o : Option Limits) → Some k ≡ readable o → kept_limits vs t rs p o ≡ goes_on (row vs t rs k)
kept_some vs t rs p k None e = let z : ◌≡◌ {A = ℕ} 0 1 = cc in absurd (omega arith)
kept_some vs t rs p k (Some l) e = let q = cond_some (good_limits l) l k e in rw (q.0, q.1)

pub row_goes : (g : Gathered) (vs : List GivenVariable) (rs : List GivenRow) → Held g vs rs → (w : ArrayVec Row) (p : ℕ) (b : Bounds) (o : Option Limits) → g.state ≡ AtRow → length g.rows.items < 16
    → Some (bounds_is b) ≡ readable o → w.items ≡ g.rows.items ++ record { bounds = b; own = 0 } ∷ []
    → Goes (Ok tt) (with_rows g w) (add_row vs g.heading.tolerance rs p o)
row_goes g vs rs held w p b o state-is few e is =
    let m = rows_held g vs rs held in
    let s : add_row vs g.heading.tolerance rs p o ≡ goes_on (row vs g.heading.tolerance rs (bounds_is b)) = rw (lt-leb 16 (length rs) (omega arith)) (kept_some vs g.heading.tolerance rs p (bounds_is b) o e) in
    subst (going (with_rows g w)) (sym s) (state-is, held_row g vs rs held w (bounds_is b) (record { bounds = b; own = 0 }) (omega arith) is refl, refl)

-- a term: y is what the code decoded of what the content gives, n the last row's place, and r that row as it was
module _ (g : Gathered) (vs : List GivenVariable) (rs : List GivenRow) (k : Limits) (ts : List GivenTerm) (held : HeldOpen g vs rs k ts) (n : ℕ) (r : Row) (n-is : n ≡ length g.rows.items - 1) (r-is : r ≡ get_or g.rows.items n r) where
  last_is : row_is r ≡ head_of (record { limits = k; terms = ts })
  last_is = ap row_is r-is ∙ last_row g vs rs k ts held n r n-is

  own_is : r.own ≡ length ts
  own_is = ap (λ (h : Head). h.own) last_is

  pub many_terms : (p : ℕ) (x : GivenTerm) → 12 ≤ r.own → Goes (Err (TooMany p)) g (add_term vs g.heading.tolerance rs k ts p x)
  many_terms p x h =
      let m = own_is in
      let s : add_term vs g.heading.tolerance rs k ts p x ≡ stops (TooMany p) = rw (le-leb 12 (length ts) (omega arith)) in
      subst (stopping (TooMany p) g) (sym s) refl

  pub term_stops : (p : ℕ) (x : GivenTerm) → r.own < 12 → None ≡ cond (good_term x) (Some (padded x)) None → Goes (Err (OutOfRange p)) g (add_term vs g.heading.tolerance rs k ts p x)
  term_stops p x l e =
      let m = own_is in
      let s : add_term vs g.heading.tolerance rs k ts p x ≡ stops (OutOfRange p) = rw (lt-leb 12 (length ts) (omega arith), cond_none (good_term x) (padded x) e) in
      subst (stopping (OutOfRange p) g) (sym s) refl

  pub room_for_term : r.own < 12 → length g.terms.items < 192
  room_for_term l = let m = own_is in few_terms g vs rs k ts held (omega arith)

  pub term_goes : (w : ArrayVec Row) (z : ArrayVec Term) (p : ℕ) (y : Term) (x : GivenTerm) → g.state ≡ Terms → r.own < 12 → Some (term_is y) ≡ cond (good_term x) (Some (padded x)) None
      → z.items ≡ g.terms.items ++ y ∷ [] → w.items ≡ set g.rows.items n (record { bounds = r.bounds; own = r.own + 1 })
      → Goes (Ok tt) (with_terms g w z) (add_term vs g.heading.tolerance rs k ts p x)
  term_goes w z p y x state-is l e terms-are rows-are =
      let m = own_is in
      let few : length ts < 12 = omega arith in
      let mt = length-append ts (x ∷ []) in
      let q = cond_some (good_term x) (padded x) (term_is y) e in
      let s : add_term vs g.heading.tolerance rs k ts p x ≡ goes_on (terms vs g.heading.tolerance rs k (ts ++ x ∷ [])) = rw (lt-leb 12 (length ts) few, q.0) in
      let b : bounds_is r.bounds ≡ k = ap (λ (h : Head). h.limits) last_is in
      let count : r.own + 1 ≡ length (ts ++ x ∷ []) = omega arith in
      subst (going (with_terms g w z)) (sym s)
      (state-is, held_term g vs rs k ts held w z n x y (record { bounds = r.bounds; own = r.own + 1 }) n-is few terms-are q.1 rows-are (λ i. record { limits = b i; own = count i }), refl)
