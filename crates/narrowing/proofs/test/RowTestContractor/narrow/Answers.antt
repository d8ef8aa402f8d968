use Rattle.std.proofs.Common.{List, map, sym, ap, ◌∙◌}
use Rattle.enclosure.specs.declared.shape.Judgement.{Judgement}
use Rattle.enclosure.specs.Rows.{Line}
use Rattle.enclosure.specs.Lines.{left}
use Rattle.enclosure.proofs.Turns.{lined, lines_left}
use Rattle.narrowing.specs.Tests.{unless_broken, tested}
use Rattle.narrowing.proofs.Ways.{test_turn, tested_done, not_broken}
use Rattle.narrowing.proofs.test.RowTestContractor.narrow.Goals as goal

pub loop-line-init : goal.loop-line-init
loop-line-init c =
    ap (λ (ls : List Line). tested ls c.args.b.now) (lines_left c.n-n.result c.into_iter-line-iterator.result c.args.system.now c.n-n.ensures (cc) (cc))

pub loop-line-preserved : goal.loop-line-preserved
loop-line-preserved c =
    let b = c.args.b.now in
    let turn = test_turn c.n-n.result (left c.loop-line.line-iterator) b _ _ c.in-Some.ensures.steps c.total-whole.result c.judge_row.result (rw c.unmarked-m.ensures.region at c.total-whole.ensures) c.judge_row.ensures.answer in
    sym (not_broken c.judge_row.result (tested (map (lined c.n-n.result) (left c.next.new.self)) b) c.in_default.not-Broken) ∙ turn ∙ c.loop-line.invariant

pub returns-in-Broken : goal.returns-in-Broken
returns-in-Broken c =
    let b = c.args.b.now in
    let turn = test_turn c.n-n.result (left c.loop-line.line-iterator) b _ _ c.in-Some.ensures.steps c.total-whole.result c.judge_row.result (rw c.unmarked-m.ensures.region at c.total-whole.ensures) c.judge_row.ensures.answer in
    sym (ap (λ (j : Judgement). unless_broken j (tested (map (lined c.n-n.result) (left c.next.new.self)) b)) c.in-Broken.is) ∙ turn ∙ c.loop-line.invariant

pub returns : goal.returns
returns c = sym (tested_done c.n-n.result (left c.loop-line.line-iterator) c.args.b.now c.in-None.ensures.steps.0) ∙ c.loop-line.invariant
