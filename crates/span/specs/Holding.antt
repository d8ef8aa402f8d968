-- Which numbers a reach holds.
use Rattle.std.specs.Prelude.{◌≤ℤ◌}
use Rattle.numbers.specs.Numbers.{Numbers}
use Rattle.numbers.specs.Ends.{Ends, Holds}
use Rattle.span.specs.declared.shape.Span.{Span}
use Rattle.span.specs.Reached.{Reach}
use Rattle.span.specs.declared.shape.Reach.TheVariants.{Open, Closed}

-- the ends of a closed span
abbrev pub ends : Span → Ends
ends s = record { from = s.lo; to = s.hi }

-- the span s holds x: lo / 65536 ≤ x ≤ hi / 65536
abbrev pub Within : (N : Numbers) → Span → N.carrier → Type 0
Within N s x = Holds N (ends s) x

-- open holds everything
abbrev pub Held : (N : Numbers) → Reach → N.carrier → Type 0
Held N Open x = Unit {0}
Held N (Closed s) x = Within N s x

-- the span s lies inside the span t
abbrev pub Inside : Span → Span → Type 0
Inside s t = (t.lo ≤ℤ s.lo) × (s.hi ≤ℤ t.hi)
