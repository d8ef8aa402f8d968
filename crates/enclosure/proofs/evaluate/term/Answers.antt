use Rattle.std.proofs.Common.{◌≡◌, ℕ, ◌+◌, ◌<◌, length, get_or, take, drop, pos, sym, ap, ◌∙◌, ap₂, arith, w32, SFits, rules}
use Rattle.std.proofs.lemmas.Int.{to_z-of_z}
use Rattle.std.proofs.lemmas.List.{get_or_default}
use Rattle.span.specs.Regions.{nought}
use Rattle.enclosure.specs.Rows.{factors, numbers}
use Rattle.enclosure.specs.Evaluation.{ops, variables}
use Rattle.enclosure.proofs.Turns.{factors_turn, factors_done}
use Rattle.enclosure.proofs.evaluate.term.Goals as goal

pub loop-i-preserved : goal.loop-i-preserved
loop-i-preserved g c =
    let E = g.E.Enclosure in
    let i = c.loop-i.i in
    let b = c.args.m.now.region.now in
    let es = c.args.t.now.exponents in
    let v : ℕ → g.row.E.Denot = variables E b (numbers c.args.m.now.inside) in
    let w : length es ≡ 8 = c.args.t.now.whole in
    let f : SFits w32 (get_or c.args.m.now.inside i (pos 0)) = search rules in
    let few : i < length b.spans = let u = b.whole in let m = c.min-i-end.ensures in omega (arith, c.loop-i-test.true) in
    let x : c.variable-x.result ≡ v i = c.variable-x.ensures ∙ ap₂ (E.coordinate i) (get_or_default b.spans i c.index-m-i.result nought few) (to_z-of_z w32 _ f) in
    let y : c.product-all.result ≡ E.times c.loop-i.all (E.raised (v i) (get_or es i 0)) = c.product-all.ensures ∙ ap (E.times c.loop-i.all) (c.power.ensures ∙ ap (λ (z : g.row.E.Denot). E.raised z (get_or es i 0)) x) in
    ap (λ (a : g.row.E.Denot). factors (ops E) v a (i + 1) (drop (i + 1) (take c.args.n es))) y
    ∙ sym (factors_turn (ops E) v c.loop-i.all c.args.n i es (let m = c.min-i-end.ensures in omega (arith, c.loop-i-test.true)) (let m = c.min-i-end.ensures in omega (arith, c.loop-i-test.true))) ∙ c.loop-i.invariant

pub returns : goal.returns
returns g c = sym (factors_done (ops g.E.Enclosure) (variables g.E.Enclosure c.args.m.now.region.now (numbers c.args.m.now.inside)) c.loop-i.all c.args.n c.loop-i.i c.args.t.now.exponents (let w = c.args.t.now.whole in let m = c.min-i-end.ensures in omega (arith, c.loop-i-test.false))) ∙ c.loop-i.invariant
