use Rattle.std.proofs.Common.{◌-◌}
use Rattle.runlaw.specs.Laws.{judging}
use Rattle.runlaw.specs.Endings.{Going}
use Rattle.solving.proofs.solve.finish.Given as goal

abbrev pub invariant-rounds : goal.invariant-rounds
invariant-rounds g l = Going (g.C.Contractor.narrowed l.method.contractor) (g.R.SplittingRule.named l.method.rule) (judging g.E.Enclosure) l.initial.run l.run

abbrev pub decreases-rounds : goal.decreases-rounds
decreases-rounds g l = l.run.limit - l.run.settled
