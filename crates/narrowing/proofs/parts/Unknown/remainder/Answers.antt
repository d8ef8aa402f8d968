use Rattle.std.proofs.Common.{ℕ, ◌+◌, map, drop, sym, ap, ◌∙◌, arith}
use Rattle.span.specs.Reached.{Reach}
use Rattle.span.specs.declared.shape.Reach.TheVariants.{Closed}
use Rattle.arithmetic.specs.Reaches.{sum}
use Rattle.enclosure.specs.Rows.{term, terms_from}
use Rattle.span.specs.Regions.{at}
use Rattle.enclosure.specs.Plain.{plain}
use Rattle.narrowing.specs.Passes.{others}
use Rattle.narrowing.proofs.Turns.{others_found, others_passed, others_done}
use Rattle.narrowing.proofs.parts.Unknown.remainder.Goals as goal
use Rattle.narrowing.proofs.parts.Unknown.remainder.Goals.{then-t-j-eq0, else-t-j-eq0}

pub loop-t-preserved : goal.loop-t-preserved
loop-t-preserved c =
    let n = c.args.self.now.n in
    let j = c.args.self.now.j in
    let ts = c.args.self.now.terms.now in
    let i = c.loop-t.t-index in
    let v : ℕ → Reach = λ k. Closed (at c.args.b.now k) in
    let left : Reach → Reach = λ a. terms_from plain v a (others j (map (term n) (drop (i + 1) ts))) in
    elim c.if-t-j-eq0.branch [
      | then-t-j-eq0 w ↦ ap left (w.all-is ∙ w.sum-all.ensures.answer ∙ ap (sum c.loop-t.all) (rw c.unmarked-m.ensures.region at w.term-x.ensures)) ∙ sym (others_found n j ts i c.t-item.result c.t-item.is c.loop-t-test.true c.args.self.now.there plain v c.loop-t.all w.if-t-j-eq0.true) ∙ c.loop-t.invariant
      | else-t-j-eq0 w ↦ ap left w.all-is ∙ sym (others_passed n j ts i c.t-item.result c.t-item.is c.loop-t-test.true c.args.self.now.there plain v c.loop-t.all (let h = w.if-t-j-eq0.false in omega arith)) ∙ c.loop-t.invariant
    ]

pub returns : goal.returns
returns c = sym (others_done plain (λ i. Closed (at c.args.b.now i)) c.loop-t.all c.args.self.now.n c.args.self.now.j c.args.self.now.terms.now c.loop-t.t-index c.loop-t-test.false) ∙ c.loop-t.invariant
