-- The Gauss-Seidel pass. The value of a row is A · xⱼ + R, with A the sum of the terms that hold variable j, one power of it taken off, and R the sum of the others.
use Rattle.std.specs.Prelude.{ℕ, zero, suc, Bool, true, false, cond, ◌||◌, List, [], ◌∷◌, map, ℤ, ◌≤ℤ◌, Some, None, Option}
use Rattle.numbers.specs.Rows.{Term}
use Rattle.span.specs.declared.shape.Span.{Span}
use Rattle.span.specs.Reached.{Reach}
use Rattle.span.specs.declared.shape.Reach.TheVariants.{Open, Closed}
use Rattle.span.specs.Making.{at_most?}
use Rattle.arithmetic.specs.Reaches.{stretch, difference, quotient, within}
use Rattle.sheet.specs.declared.shape.Bounds.{Bounds}
use Rattle.sheet.specs.declared.shape.Bounds.TheVariants.{AtLeast, AtMost, Between}
use Rattle.sheet.specs.declared.shape.Term.{Term as Written}
use Rattle.span.specs.declared.region.Region.{Region}
use Rattle.span.specs.Regions.{at, with_span}
use Rattle.enclosure.specs.Rows.{Line, lines, term}
use Rattle.enclosure.specs.Plain.{plain_row}
use Rattle.contractor.specs.Laws.{Narrowing}
use Rattle.contractor.specs.Steps.{bind}

-- ---- the terms that hold variable j
-- its exponent is at least 1
unfoldable pub has : ℕ → List ℕ → Bool
has j [] = false
has zero (zero ∷ es) = false
has zero (suc e ∷ es) = true
has (suc j) (e ∷ es) = has j es

-- one power of it taken off
unfoldable pub lowered : ℕ → List ℕ → List ℕ
lowered j [] = []
lowered zero (zero ∷ es) = zero ∷ es
lowered zero (suc e ∷ es) = e ∷ es
lowered (suc j) (e ∷ es) = e ∷ lowered j es

abbrev pub lower : ℕ → Term → Term
lower j t = record { coefficient = t.coefficient; exponents = lowered j t.exponents }

-- some term holds it
unfoldable pub occurs : ℕ → List Term → Bool
occurs j [] = false
occurs j (t ∷ ts) = has j t.exponents || occurs j ts

-- the terms of A
unfoldable pub holding : ℕ → List Term → List Term
holding j [] = []
holding j (t ∷ ts) = cond (has j t.exponents) (lower j t ∷ holding j ts) (holding j ts)

-- the terms of R
unfoldable pub others : ℕ → List Term → List Term
others j [] = []
others j (t ∷ ts) = cond (has j t.exponents) (others j ts) (t ∷ others j ts)

-- ---- one variable of one row
-- [a, b], or none where the ends cross
abbrev pub spanning : (a b : ℤ) → Dec (a ≤ℤ b) → Option Reach
spanning a b (yes h) = Some (stretch a b)
spanning a b (no n) = None

abbrev pub crossing : ℤ → ℤ → Option Reach
crossing a b = spanning a b (at_most? a b)

-- the target, from the row's span: the numbers that the row asks for, with the end that is missing taken from the span
abbrev pub target : Bounds → Reach → Option Reach
target (Between t) r = Some (Closed t)
target (AtLeast lo) Open = Some Open
target (AtLeast lo) (Closed s) = crossing lo s.hi
target (AtMost hi) Open = Some Open
target (AtMost hi) (Closed s) = crossing s.lo hi

-- (T − R) / A
abbrev pub solved : Region → List Term → ℕ → Reach → Reach
solved b ts j t = quotient (difference t (plain_row b (others j ts))) (plain_row b (holding j ts))

-- the box with the new span of variable j, and none for none
abbrev pub replaced : Region → ℕ → Option Span → Option Region
replaced b j None = None
replaced b j (Some s) = Some (with_span b j s)

-- the span of variable j meets (T − R) / A
abbrev pub aimed : Region → List Term → ℕ → Option Reach → Option Region
aimed b ts j None = None
aimed b ts j (Some t) = replaced b j (within (at b j) (solved b ts j t))

-- a variable that does not occur in the row is left as it is
unfoldable pub narrowed_at : Line → ℕ → Region → Option Region
narrowed_at l j b = cond (occurs j l.terms) (aimed b l.terms j (target l.bounds (plain_row b l.terms))) (Some b)

-- a row as it is written
abbrev pub line : ℕ → Bounds → List Written → Line
line n k ts = record { bounds = k; terms = map (term n) ts }

-- ---- the pass
-- k variables from j on
unfoldable pub narrowed_from : Line → ℕ → ℕ → Region → Option Region
narrowed_from l zero j b = Some b
narrowed_from l (suc k) j b = bind (narrowed_at l j b) (narrowed_from l k (suc j))

-- row after row, each from the box as narrowed so far
unfoldable pub passed : ℕ → List Line → Region → Option Region
passed n [] b = Some b
passed n (l ∷ ls) b = bind (narrowed_from l n 0 b) (passed n ls)

abbrev pub pass : Narrowing
pass s b = passed s.n (lines s) b
