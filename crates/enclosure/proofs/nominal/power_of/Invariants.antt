use Rattle.std.proofs.Common.{◌≡◌}
use Rattle.enclosure.specs.Nominals.{nominal_power}
use Rattle.enclosure.proofs.nominal.power_of.Given as goal

abbrev pub invariant-loop-i : goal.invariant-loop-i
invariant-loop-i l = l.all ≡ nominal_power l.p l._i
