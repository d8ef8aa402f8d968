use Rattle.std.proofs.Common.{ℕ, ◌+◌, map, drop, sym, ap, ◌∙◌}
use Rattle.sheet.specs.declared.shape.Term.{Term as Written}
use Rattle.enclosure.specs.Rows.{term_of, terms_from, numbers, term}
use Rattle.enclosure.specs.Evaluation.{ops, variables}
use Rattle.enclosure.proofs.Turns.{terms_turn, terms_done}
use Rattle.enclosure.proofs.evaluate.total.Goals as goal

pub loop-t-preserved : goal.loop-t-preserved
loop-t-preserved g c =
    let E = g.E.Enclosure in
    let i = c.loop-t.t-index in
    let v : ℕ → g.row.E.Denot = variables E c.args.m.now.region.now (numbers c.args.m.now.inside) in
    ap (λ (a : g.row.E.Denot). terms_from (ops E) v a (map (term c.args.n) (drop (i + 1) c.args.ts.now))) (c.sum-all.ensures ∙ ap (E.plus c.loop-t.all) (c.term.ensures ∙ ap (λ (t : Written). term_of (ops E) v (term c.args.n t)) c.t-item.is))
    ∙ sym (terms_turn (ops E) v c.loop-t.all c.args.n i c.args.ts.now c.t-item.result c.loop-t-test.true) ∙ c.loop-t.invariant

pub returns : goal.returns
returns g c = sym (terms_done (ops g.E.Enclosure) (variables g.E.Enclosure c.args.m.now.region.now (numbers c.args.m.now.inside)) c.loop-t.all c.args.n c.loop-t.t-index c.args.ts.now c.loop-t-test.false) ∙ c.loop-t.invariant
