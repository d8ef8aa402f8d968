use Rattle.std.proofs.Common.{ℕ, ◌+◌, map, drop, sym, ap, ◌∙◌, arith}
use Rattle.span.specs.Reached.{Reach}
use Rattle.span.specs.declared.shape.Reach.TheVariants.{Closed}
use Rattle.arithmetic.specs.Reaches.{sum}
use Rattle.enclosure.specs.Rows.{term, terms_from}
use Rattle.span.specs.Regions.{at}
use Rattle.enclosure.specs.Plain.{plain}
use Rattle.narrowing.specs.Passes.{holding}
use Rattle.narrowing.proofs.Turns.{holding_found, holding_passed, holding_done}
use Rattle.narrowing.proofs.parts.Unknown.slope.Goals as goal
use Rattle.narrowing.proofs.parts.Unknown.slope.Goals.{then-t-j-gt0, else-t-j-gt0}

pub loop-t-preserved : goal.loop-t-preserved
loop-t-preserved c =
    let n = c.args.self.now.n in
    let j = c.args.self.now.j in
    let ts = c.args.self.now.terms.now in
    let i = c.loop-t.t-index in
    let v : ℕ → Reach = λ k. Closed (at c.args.b.now k) in
    let left : Reach → Reach = λ a. terms_from plain v a (holding j (map (term n) (drop (i + 1) ts))) in
    elim c.if-t-j-gt0.branch [
      | then-t-j-gt0 w ↦ ap left (w.all-is ∙ w.sum-all.ensures.answer ∙ ap (sum c.loop-t.all) (rw c.unmarked-m.ensures.region at w.term-x.ensures)) ∙ sym (holding_found n j ts i c.t-item.result c.t-item.is c.loop-t-test.true c.args.self.now.there plain v c.loop-t.all w.lower-low.result w.lower-low.ensures.coefficient w.lower-low.ensures.exponents w.if-t-j-gt0.true) ∙ c.loop-t.invariant
      | else-t-j-gt0 w ↦ ap left w.all-is ∙ sym (holding_passed n j ts i c.t-item.result c.t-item.is c.loop-t-test.true c.args.self.now.there plain v c.loop-t.all (let h = w.if-t-j-gt0.false in omega arith)) ∙ c.loop-t.invariant
    ]

pub returns : goal.returns
returns c = sym (holding_done plain (λ i. Closed (at c.args.b.now i)) c.loop-t.all c.args.self.now.n c.args.self.now.j c.args.self.now.terms.now c.loop-t.t-index c.loop-t-test.false) ∙ c.loop-t.invariant
