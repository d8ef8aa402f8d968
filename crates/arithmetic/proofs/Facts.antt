-- The single values whose spans are given by their ends.
use Rattle.std.proofs.Common.{◌≡◌, pos, negsuc, ◌+ℤ◌, sym, arith}
use borrow.Author.Differences.{ints}
use Rattle.arithmetic.specs.Facts.{SumAtLimit, SplitRoundsDown}
use Rattle.arithmetic.specs.Reaches.{stretch}
use Rattle.span.specs.Halves.{middle, lower, upper}
use Rattle.numbers.specs.Rounding.{floor}
use Rattle.span.proofs.Alike.{made_closed}
use Rattle.arithmetic.proofs.Results.{reach_closed}

pub at_limit : SumAtLimit
unfolding stretch
at_limit s p q = sym (reach_closed s (s.lo +ℤ pos 0) (s.hi +ℤ pos 0) (omega (arith, ints)) (omega (arith, ints)))

pub splits : SplitRoundsDown
splits s p q =
    let m : middle s ≡ negsuc 1 = λ i. floor (p i +ℤ q i) 2 in
    (made_closed (lower s) _ _ p m, made_closed (upper s) _ _ m q)
