use Rattle.std.proofs.Common.{◌≡◌}
use Rattle.arithmetic.specs.Reaches.{power}
use Rattle.arithmetic.proofs.reach.power.Given as goal

abbrev pub invariant-loop-i : goal.invariant-loop-i
invariant-loop-i l = l.all ≡ power l.r l._i
