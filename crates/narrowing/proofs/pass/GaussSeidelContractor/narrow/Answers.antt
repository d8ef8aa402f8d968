use native.Mathlib.Nat.{sub-zero}
use Rattle.std.proofs.Common.{ℕ, List, map, sym, ap, ◌∙◌}
use Rattle.enclosure.specs.Rows.{Line, lines}
use Rattle.enclosure.specs.Lines.{left}
use Rattle.enclosure.proofs.Turns.{lined, lines_left}
use Rattle.narrowing.specs.Passes.{line, passed}
use Rattle.narrowing.proofs.Ways.{variable_none, variable_some, variables_done, row_turn, rows_done}
use Rattle.narrowing.proofs.pass.GaussSeidelContractor.narrow.Goals as goal

pub loop-line-init : goal.loop-line-init
loop-line-init c =
    ap (λ (ls : List Line). passed c.n-n.result ls c.args.b.now) (lines_left c.n-n.result c.into_iter-line-iterator.result c.args.system.now c.n-n.ensures (cc) (cc))
    ∙ ap (λ (n : ℕ). passed n (lines c.args.system.now) c.args.b.now) c.n-n.ensures

pub loop-j-init : goal.loop-j-init
loop-j-init c = rw sub-zero (row_turn c.n-n.result (left c.loop-line.line-iterator) c.loop-line.cur _ _ c.in-Some.ensures.steps ∙ c.loop-line.invariant)

pub loop-j-preserved : goal.loop-j-preserved
loop-j-preserved c =
    let n = c.n-n.result in
    variable_some (line n c.in-Some.line.bounds c.in-Some.line.terms.now) n c.loop-j.j c.loop-j.cur (passed n (map (lined n) (left c.next.new.self))) c.in-Some-narrow.c c.loop-j-test.true (sym c.in-Some-narrow.is ∙ c.narrow.ensures) ∙ c.loop-j.invariant

pub loop-line-preserved : goal.loop-line-preserved
loop-line-preserved c =
    let n = c.n-n.result in
    variables_done (line n c.in-Some.line.bounds c.in-Some.line.terms.now) n c.loop-j.j c.loop-j.cur (passed n (map (lined n) (left c.next.new.self))) c.loop-j-test.false ∙ c.loop-j.invariant

pub returns-in-None-narrow : goal.returns-in-None-narrow
returns-in-None-narrow c =
    let n = c.n-n.result in
    variable_none (line n c.in-Some.line.bounds c.in-Some.line.terms.now) n c.loop-j.j c.loop-j.cur (passed n (map (lined n) (left c.next.new.self))) c.loop-j-test.true (sym c.in-None-narrow.is ∙ c.narrow.ensures) ∙ c.loop-j.invariant

pub returns-in-None : goal.returns-in-None
returns-in-None c = sym (rows_done c.n-n.result (left c.loop-line.line-iterator) c.loop-line.cur c.in-None.ensures.steps.0) ∙ c.loop-line.invariant
