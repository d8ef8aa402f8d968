use Rattle.std.proofs.Common.{◌≡◌, ℕ, ◌+◌, ◌-◌, ◌<◌, length, take, length-take-le, get_or-take, sym, ap, ◌∙◌, subst, arith}
use Rattle.std.proofs.lemmas.List.{get_or_default}
use Rattle.span.specs.declared.shape.Span.{Span}
use Rattle.span.specs.Halves.{width}
use Rattle.span.specs.Regions.{nought}
use Rattle.contractor.specs.Rules.{widest_from, widest, widest_is}
use Rattle.contractor.proofs.Turns.{widest_found, widest_passed, widest_done, tie_broken}
use Rattle.contractor.proofs.rules.widest_variable.Goals as goal
use Rattle.contractor.proofs.rules.widest_variable.Goals.{then-width, else-width}

pub loop-i-preserved : goal.loop-i-preserved
loop-i-preserved c =
    let b = c.args.b.now in
    let i = c.loop-i.i in
    let best = c.loop-i.best in
    let l : length (take b.n b.spans) ≡ b.n = length-take-le b.n b.spans (let f = b.few in let w = b.whole in omega arith) in
    let here : i < b.n = omega (arith, c.loop-i-test.true) in
    let ew = c.width.ensures ∙ ap (λ (s : Span). width s) (c.s-item.is ∙ get_or-take b.n b.spans i c.s-item.result here ∙ get_or_default b.spans i c.s-item.result nought (let f = b.few in let w = b.whole in omega arith)) in
    let ev = c.width-in-loop-i.ensures ∙ ap (λ (s : Span). width s) (get_or_default b.spans best c.index-b-best.result nought (let f = b.few in let w = b.whole in let l = c.loop-i.invariant.0 in omega arith)) in
    let Left : ℕ → Type 0 = λ j. (j < b.n) × (widest_from b (b.n - (i + 1)) (i + 1) j ≡ widest b) in
    elim c.if-width.branch [
      | then-width w ↦ subst Left (sym w.best-is) (here, sym (widest_found b b.n i best c.width-in-loop-i.result c.width.result ev ew here w.if-width.true) ∙ c.loop-i.invariant.1)
      | else-width w ↦ subst Left (sym w.best-is) (c.loop-i.invariant.0, sym (widest_passed b b.n i best c.width-in-loop-i.result c.width.result ev ew here w.if-width.false) ∙ c.loop-i.invariant.1)
    ]

pub returns : goal.returns
returns c =
    let b = c.args.b.now in
    let l : length (take b.n b.spans) ≡ b.n = length-take-le b.n b.spans (let f = b.few in let w = b.whole in omega arith) in
    record { answer = sym (widest_done b b.n c.loop-i.i c.loop-i.best (omega (arith, c.loop-i-test.false))) ∙ c.loop-i.invariant.1; is = widest_is; tie = tie_broken }
