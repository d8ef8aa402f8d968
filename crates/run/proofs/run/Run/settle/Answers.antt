use Rattle.runlaw.proofs.Lawful.{settle_lawful}
use Rattle.run.proofs.run.Run.settle.Goals as goal

pub returns-in_default-clause-lawful : goal.returns-in_default-clause-lawful
returns-in_default-clause-lawful g c = settle_lawful _ _ g.E.Enclosure (g.C.Contractor.laws c.args.method.now.contractor) (g.R.SplittingRule.laws c.args.method.now.rule)

pub returns-clause-lawful : goal.returns-clause-lawful
returns-clause-lawful g c = settle_lawful _ _ g.E.Enclosure (g.C.Contractor.laws c.args.method.now.contractor) (g.R.SplittingRule.laws c.args.method.now.rule)
