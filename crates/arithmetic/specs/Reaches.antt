-- What is computed with spans. A result whose end is no count is open.
use Rattle.std.specs.Prelude.{ℕ, suc, ℤ, pos, Some, None, Option}
use Prim.Native.Nat as Nat
use Rattle.std.specs.Int.Signed.{le_z_yes}
use Rattle.std.specs.Int.{int_min, int_max}
use Rattle.numbers.specs.Ends.{Ends}
use Rattle.numbers.specs.Ends as E
use Rattle.span.specs.Making.{Fit, fit?, closed, made}
use Rattle.span.specs.Holding.{ends}
use Rattle.rounding.specs.Sides.{Side, side, above, below, around}
use Rattle.span.specs.declared.shape.Span.{Span}
use Rattle.span.specs.Reached.{Reach}
use Rattle.span.specs.declared.shape.Reach.TheVariants.{Open, Closed}

-- the reach between two ends: open if they are not the ends of a closed span
abbrev pub reached : (a b : ℤ) → Dec (Fit a b) → Reach
reached a b (yes f) = Closed (closed a b f)
reached a b (no n) = Open

unfoldable pub stretch : ℤ → ℤ → Reach
stretch a b = reached a b (fit? a b)

abbrev pub reach : Ends → Reach
reach e = stretch e.from e.to

-- an open operand gives open
abbrev pub both : (Ends → Ends → Ends) → Reach → Reach → Reach
both f Open t = Open
both f (Closed s) Open = Open
both f (Closed s) (Closed t) = reach (f (ends s) (ends t))

abbrev pub sum : Reach → Reach → Reach
sum = both E.sum

abbrev pub difference : Reach → Reach → Reach
difference = both E.difference

abbrev pub product : Reach → Reach → Reach
product = both E.product

-- [65536, 65536]
abbrev pub one : Span
one = record { lo = pos 65536; hi = pos 65536; ordered = le_z_yes tt; least = le_z_yes tt; most = le_z_yes tt }

unfoldable pub power : Reach → ℕ → Reach
power r Nat.zero = Closed one
power r (suc k) = product (power r k) r

abbrev pub ends_quotient : Span → Span → Reach
ends_quotient s t = reach (E.quotient (ends s) (ends t))

abbrev pub divided : Span → (t : Span) → Side t → Reach
divided s t (above h) = ends_quotient s t
divided s t (below h) = ends_quotient s t
divided s t (around h k) = Open

-- open if the divisor holds 0
abbrev pub quotient : Reach → Reach → Reach
quotient Open t = Open
quotient (Closed s) Open = Open
quotient (Closed s) (Closed t) = divided s t (side t)

-- the common part of two closed spans: none if its ends cross
abbrev pub common : Span → Span → Option Span
common s t = made (int_max s.lo t.lo) (int_min s.hi t.hi)

-- the part of s that r holds too: open leaves the whole
abbrev pub within : Span → Reach → Option Span
within s Open = Some s
within s (Closed t) = common s t

abbrev pub closing : Option Span → Option Reach
closing None = None
closing (Some s) = Some (Closed s)

abbrev pub meet : Reach → Reach → Option Reach
meet Open t = Some t
meet (Closed s) t = closing (within s t)
