-- Single values of the definitions.
use Rattle.std.specs.Prelude.{◌≡◌, pos, negsuc, Some}
use Rattle.span.specs.declared.shape.Span.{Span}
use Rattle.span.specs.Reached.{Reach}
use Rattle.span.specs.declared.shape.Reach.TheVariants.{Open, Closed}
use Rattle.span.specs.Making.{made}
use Rattle.arithmetic.specs.Reaches.{stretch, sum, product, power, quotient}
use Rattle.span.specs.Halves.{lower, upper}

-- a product rounds its lower end down and its upper end up
abbrev pub ProductOutward : Type 0
ProductOutward = product (stretch (negsuc 0) (negsuc 0)) (stretch (pos 1) (pos 1)) ≡ stretch (negsuc 0) (pos 0)

-- so does a quotient
abbrev pub QuotientOutward : Type 0
QuotientOutward = quotient (stretch (pos 65536) (pos 65536)) (stretch (pos 196608) (pos 196608)) ≡ stretch (pos 21845) (pos 21846)

abbrev pub DividedByZero : Type 0
DividedByZero = quotient (stretch (pos 1) (pos 1)) (stretch (pos 0) (pos 5)) ≡ Open

-- the greatest count is an end, and one more is none
abbrev pub SumAtLimit : Type 0
SumAtLimit = (s : Span) → s.lo ≡ pos 2147483647 → s.hi ≡ pos 2147483647 → sum (Closed s) (stretch (pos 0) (pos 0)) ≡ Closed s

abbrev pub SumPastLimit : Type 0
SumPastLimit = sum (stretch (pos 2147483647) (pos 2147483647)) (stretch (pos 1) (pos 1)) ≡ Open

-- power 1 is the span itself
abbrev pub PowerOne : Type 0
PowerOne = (r : Reach) → power r 1 ≡ r

abbrev pub SquareKeepsBoth : Type 0
SquareKeepsBoth = power (stretch (negsuc 65535) (pos 65536)) 2 ≡ stretch (negsuc 65535) (pos 65536)

-- [−3, 0] splits into [−3, −2] and [−2, 0]
abbrev pub SplitRoundsDown : Type 0
SplitRoundsDown = (s : Span) → s.lo ≡ negsuc 2 → s.hi ≡ pos 0 → (Some (lower s) ≡ made (negsuc 2) (negsuc 1)) × (Some (upper s) ≡ made (negsuc 1) (pos 0))
