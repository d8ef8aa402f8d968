use Rattle.std.proofs.Common.{◌≡◌, ◌-◌}
use Rattle.contractor.specs.Layers.{until}
use Rattle.contractor.proofs.layers.UntilContractor.narrow.Given as goal

-- what is left of the rounds gives the answer
abbrev pub invariant-loop-i : goal.invariant-loop-i
invariant-loop-i g l = until (l.k - l._i) (g.A.Contractor.narrowed l.self.inner) l.system l.cur ≡ until l.k (g.A.Contractor.narrowed l.self.inner) l.system l.b
