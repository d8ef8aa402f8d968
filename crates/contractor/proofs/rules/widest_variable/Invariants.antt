use Rattle.std.proofs.Common.{◌≡◌, ◌-◌, ◌<◌}
use Rattle.contractor.specs.Rules.{widest_from, widest}
use Rattle.contractor.proofs.rules.widest_variable.Given as goal

-- what is left gives the answer
abbrev pub invariant-loop-i : goal.invariant-loop-i
invariant-loop-i l = (l.best < l.b.n) × (widest_from l.b (l.b.n - l.i) l.i l.best ≡ widest l.b)
