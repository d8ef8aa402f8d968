-- Rows worked out by any operations: numbers, or enclosures of them. A term and a row are left folds, in the order of the sheet.
use Rattle.std.specs.Prelude.{ℕ, zero, suc, List, [], ◌∷◌, map, take, drop, ℤ, pos, slice_index_or}
use Rattle.numbers.specs.Numbers.{Numbers}
use Rattle.numbers.specs.Values as V
use Rattle.numbers.specs.Rows.{Term}
use Rattle.sheet.specs.declared.shape.Term.{Term as Written}
use Rattle.sheet.specs.declared.shape.Row.{Row}
use Rattle.sheet.specs.declared.shape.Bounds.{Bounds}
use Rattle.sheet.specs.declared.shape.Bounds.TheVariants.{AtLeast, AtMost, Between}
use Rattle.sheet.specs.declared.system.System.{System}

-- what a row is worked out by
pub record Ops (X : Type 0) : Type 0 where
  pub number : ℤ → X
  pub plus : X → X → X
  pub times : X → X → X
  pub power : X → ℕ → X

-- the factors of the variables from i on, each multiplied to what is there
unfoldable pub factors : {X : Type 0} → Ops X → (ℕ → X) → X → ℕ → List ℕ → X
factors O v a i [] = a
factors O v a i (e ∷ es) = factors O v (O.times a (O.power (v i) e)) (suc i) es

-- ((c × x₁ ^ e₁) × x₂ ^ e₂) …
abbrev pub term_of : {X : Type 0} → Ops X → (ℕ → X) → Term → X
term_of O v t = factors O v (O.number t.coefficient) 0 t.exponents

unfoldable pub terms_from : {X : Type 0} → Ops X → (ℕ → X) → X → List Term → X
terms_from O v a [] = a
terms_from O v a (t ∷ ts) = terms_from O v (O.plus a (term_of O v t)) ts

-- 0 plus the terms in their order
abbrev pub row_of : {X : Type 0} → Ops X → (ℕ → X) → List Term → X
row_of O v ts = terms_from O v (O.number (pos 0)) ts

-- ---- rows of a system
-- a row: what it asks of its value, and its terms
pub record Line : Type 0 where
  pub bounds : Bounds
  pub terms : List Term

-- a term's exponents of the n variables
abbrev pub term : ℕ → Written → Term
term n t = record { coefficient = t.coefficient; exponents = take n t.exponents }

-- each row's terms stand behind those of the rows before it
unfoldable pub lines_from : ℕ → List Row → List Written → List Line
lines_from n [] ts = []
lines_from n (r ∷ rs) ts = record { bounds = r.bounds; terms = map (term n) (take r.own ts) } ∷ lines_from n rs (drop r.own ts)

abbrev pub lines : System → List Line
lines s = lines_from s.n s.rows.now s.terms.now

-- the terms of row i, counted from 0: none where there is no row i
unfoldable pub own : List Row → List Written → ℕ → List Written
own [] ts i = []
own (r ∷ rs) ts zero = take r.own ts
own (r ∷ rs) ts (suc i) = own rs (drop r.own ts) i

abbrev pub own_terms : System → ℕ → List Written
own_terms s i = own s.rows.now s.terms.now i

-- the same with the exponents of its variables alone
abbrev pub row_terms : System → ℕ → List Term
row_terms s i = map (term s.n) (own_terms s i)

-- the numbers of a list, and 0 past its end
abbrev pub numbers : List ℤ → ℕ → ℤ
numbers ms i = slice_index_or ms i (pos 0)

-- ---- points, over every kind of number
abbrev pub values : (N : Numbers) → Ops N.carrier
values N = record { number = V.count N; plus = N.add; times = N.mul; power = V.raised N }

-- the value of a row at the point x
abbrev pub value : (N : Numbers) → (ℕ → N.carrier) → List Term → N.carrier
value N x ts = row_of (values N) x ts

-- the value v is one that the row asks for
abbrev pub Meets : (N : Numbers) → Bounds → N.carrier → Type 0
Meets N (AtLeast lo) v = N.le (V.count N lo) v
Meets N (AtMost hi) v = N.le v (V.count N hi)
Meets N (Between s) v = N.le (V.count N s.lo) v × N.le v (V.count N s.hi)

-- the point x meets every row
abbrev pub MeetsAll : (N : Numbers) → (ℕ → N.carrier) → List Line → Type 0
MeetsAll N x [] = Unit {0}
MeetsAll N x (l ∷ ls) = Meets N l.bounds (value N x l.terms) × MeetsAll N x ls
