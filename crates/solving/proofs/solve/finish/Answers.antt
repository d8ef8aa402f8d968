use Rattle.std.proofs.Common.{sym, ap, ◌∙◌}
use Rattle.runlaw.specs.Steps.{refused}
use Rattle.run.specs.declared.shape.Unsettled.{Unsettled}
use Rattle.run.specs.Numbers.{settle_number}
use Rattle.runlaw.specs.Laws.{judging}
use Rattle.runlaw.proofs.Endings.{going_more, ends_taking, ends_settling}
use Rattle.runlaw.proofs.Lawful.{settle_lawful}
use Rattle.solving.proofs.solve.finish.Goals as goal

pub rounds-preserved : goal.rounds-preserved
rounds-preserved g c = going_more (g.C.Contractor.narrowed c.args.method.now.contractor) (g.R.SplittingRule.named c.args.method.now.rule) (judging g.E.Enclosure) c.args.run.now c.rounds.run c.take.new.self c.settle.new.self c.rounds.invariant c.in-Ok.ensures.answer c.in-Ok.ensures.left c.in-Ok-settle.ensures.answer c.in-Ok-settle.ensures.left

pub returns-in-Err : goal.returns-in-Err
returns-in-Err g c =
    let e = ends_taking (g.C.Contractor.narrowed c.args.method.now.contractor) (g.R.SplittingRule.named c.args.method.now.rule) (judging g.E.Enclosure) c.args.run.now c.rounds.run c.take.new.self (settle_lawful _ _ g.E.Enclosure (g.C.Contractor.laws c.args.method.now.contractor) (g.R.SplittingRule.laws c.args.method.now.rule)) c.rounds.invariant c.in-Err.ensures.answer c.in-Err.ensures.left in
    record { ends = e.ends; sound = e.sound }

pub returns-in-Err-FeasibleFull : goal.returns-in-Err-FeasibleFull
returns-in-Err-FeasibleFull g c =
    let a = ap (λ (u : Unsettled). refused (settle_number u)) (sym c.in-Err-FeasibleFull.field-0-is) ∙ c.in-Err-FeasibleFull.ensures.answer in
    let e = ends_settling (g.C.Contractor.narrowed c.args.method.now.contractor) (g.R.SplittingRule.named c.args.method.now.rule) (judging g.E.Enclosure) c.args.run.now c.rounds.run c.take.new.self c.settle.new.self c.settle.ensures.lawful c.rounds.invariant c.in-Ok.ensures.answer c.in-Ok.ensures.left a c.in-Err-FeasibleFull.ensures.left in
    record { ends = e.ends; sound = e.sound }

pub returns-in-Err-UndecidedFull : goal.returns-in-Err-UndecidedFull
returns-in-Err-UndecidedFull g c =
    let a = ap (λ (u : Unsettled). refused (settle_number u)) (sym c.in-Err-UndecidedFull.field-0-is) ∙ c.in-Err-UndecidedFull.ensures.answer in
    let e = ends_settling (g.C.Contractor.narrowed c.args.method.now.contractor) (g.R.SplittingRule.named c.args.method.now.rule) (judging g.E.Enclosure) c.args.run.now c.rounds.run c.take.new.self c.settle.new.self c.settle.ensures.lawful c.rounds.invariant c.in-Ok.ensures.answer c.in-Ok.ensures.left a c.in-Err-UndecidedFull.ensures.left in
    record { ends = e.ends; sound = e.sound }
