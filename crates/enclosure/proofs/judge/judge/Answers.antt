use Rattle.std.proofs.Common.{sym, ap, ◌∙◌}
use Rattle.enclosure.specs.Evaluation.{judged}
use Rattle.enclosure.specs.Rows.{numbers}
use Rattle.enclosure.specs.Sound.{nominal_alike}
use Rattle.enclosure.proofs.Bridge.{bridge, judged_sound}
use Rattle.enclosure.proofs.Turns.{lines_left, judge_turn, judged_done}
use Rattle.enclosure.proofs.judge.judge.Goals as goal

pub loop-line-init : goal.loop-line-init
loop-line-init g c =
    ap (judged g.E.Enclosure c.args.m.now.region.now (numbers c.args.m.now.inside)) (lines_left c.n-n.result c.into_iter-line-iterator.result c.args.system.now c.n-n.ensures (cc) (cc))

pub loop-line-preserved : goal.loop-line-preserved
loop-line-preserved g c = judge_turn g.E.Enclosure c.args.m.now.region.now (numbers c.args.m.now.inside) c.n-n.result _ _ _ c.loop-line.all c.total-e.result c.span.result c.judge_row.result c.join-all.result c.in-Some.ensures.steps c.total-e.ensures c.span.ensures c.judge_row.ensures.answer c.join-all.ensures ∙ c.loop-line.invariant

pub returns : goal.returns
returns g c =
    let e = sym (judged_done g.E.Enclosure c.args.m.now.region.now (numbers c.args.m.now.inside) c.n-n.result _ c.loop-line.all c.in-None.ensures.steps.0) ∙ c.loop-line.invariant in
    record { answer = e; sound = judged_sound g.E.Enclosure c.args.system.now c.args.m.now.region.now (numbers c.args.m.now.inside) c.loop-line.all e; everywhere = record {}; bridge = bridge; alike = nominal_alike }
