-- On which side of 0 a span lies.
use Rattle.std.specs.Prelude.{ℤ, pos, ◌≤ℤ◌, ◌<ℤ◌, Some, None, Option}
use Rattle.span.specs.declared.shape.Span.{Span}
use Rattle.span.specs.Making.{at_most?, over_it}
use Rattle.numbers.specs.Ends.{Ends}
use Rattle.numbers.specs.Ends as E
use Rattle.span.specs.Holding.{ends}

abbrev pub HoldsZero : Span → Type 0
HoldsZero s = (s.lo ≤ℤ pos 0) × (pos 0 ≤ℤ s.hi)

-- a span that lies above 0 or below 0 does not hold 0
pub data Side (t : Span) : Type 0 where
  above : pos 0 <ℤ t.lo → Side t
  below : t.hi <ℤ pos 0 → Side t
  around : t.lo ≤ℤ pos 0 → pos 0 ≤ℤ t.hi → Side t

abbrev pub sided : (t : Span) → Dec (t.lo ≤ℤ pos 0) → Dec (pos 0 ≤ℤ t.hi) → Side t
sided t (yes h) (yes k) = around h k
sided t (yes h) (no k) = below (over_it k)
sided t (no h) k = above (over_it h)

abbrev pub side : (t : Span) → Side t
side t = sided t (at_most? t.lo (pos 0)) (at_most? (pos 0) t.hi)

-- the ends of the quotient by a span that does not hold 0, and none for one that does
abbrev pub ratio : Span → (t : Span) → Side t → Option Ends
ratio s t (above h) = Some (E.quotient (ends s) (ends t))
ratio s t (below h) = Some (E.quotient (ends s) (ends t))
ratio s t (around h k) = None

-- two ends as the code returns them
abbrev pub paired : Option (ℤ × ℤ) → Option Ends
paired None = None
paired (Some p) = Some (record { from = p.0; to = p.1 })
