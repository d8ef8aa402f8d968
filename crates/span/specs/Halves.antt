-- The width and the lower middle of a span, and its halves, which share the lower middle.
use Rattle.std.specs.Prelude.{ℕ, ◌+◌, ◌*◌, ◌<◌, ◌≤◌, ℤ, pos, negsuc, ◌+ℤ◌, ◌-ℤ◌, ◌≤ℤ◌, unsigned_abs}
use Rattle.std.proofs.Common.{arith}
use borrow.Author.Differences.{up, down, ints}
use Rattle.numbers.specs.Rounding.{floor}
use Rattle.span.specs.declared.shape.Span.{Span}

abbrev pub width : Span → ℕ
width s = unsigned_abs (s.hi -ℤ s.lo)

-- (lo + hi) / 2 rounded down
abbrev pub middle : Span → ℤ
middle s = floor (s.lo +ℤ s.hi) 2

-- half of z, rounded down, is m with 2m ≤ z < 2m + 2
pub half_is : (z : ℤ) → (2 * up (floor z 2) + down z ≤ 2 * down (floor z 2) + up z) × (up z + 2 * down (floor z 2) < 2 * up (floor z 2) + down z + 2)
half_is (pos n) = omega arith
half_is (negsuc n) = omega arith

pub middle_from : (s : Span) → s.lo ≤ℤ middle s
middle_from s = let h = half_is (s.lo +ℤ s.hi) in let o = s.ordered in omega (arith, ints)

pub middle_to : (s : Span) → middle s ≤ℤ s.hi
middle_to s = let h = half_is (s.lo +ℤ s.hi) in let o = s.ordered in omega (arith, ints)

pub middle_least : (s : Span) → negsuc 2147483646 ≤ℤ middle s
middle_least s = let h = middle_from s in let o = s.least in omega (arith, ints)

pub middle_most : (s : Span) → middle s ≤ℤ pos 2147483647
middle_most s = let h = middle_to s in let o = s.most in omega (arith, ints)

abbrev pub lower : Span → Span
lower s = record { lo = s.lo; hi = middle s; ordered = middle_from s; least = s.least; most = middle_most s }

abbrev pub upper : Span → Span
upper s = record { lo = middle s; hi = s.hi; ordered = middle_to s; least = middle_least s; most = s.most }
