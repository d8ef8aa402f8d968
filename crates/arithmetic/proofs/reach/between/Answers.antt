use Rattle.std.proofs.Common.{Decides, sym, ◌∙◌, arith}
use borrow.Author.Differences.{ints}
use borrow.Author.Tests.{clash}
use Rattle.std.proofs.lemmas.Int.{to_z-of_z}
use Rattle.span.specs.Making.{Fit}
use Rattle.arithmetic.proofs.Results.{reach_closed, reach_open}
use Rattle.arithmetic.proofs.reach.between.Goals as goal

pub returns-then-ends_fit : goal.returns-then-ends_fit
returns-then-ends_fit c =
    let l = c.ranges.lo in
    let h = c.ranges.hi in
    let d : Decides c.ends_fit.result (Fit c.args.lo c.args.hi) = simp to_z-of_z at c.ends_fit.ensures in
    let f : Fit c.args.lo c.args.hi = d.0 c.if-ends_fit.true in
    reach_closed _ c.args.lo c.args.hi (omega (arith, ints)) (omega (arith, ints))

pub returns-else-ends_fit : goal.returns-else-ends_fit
returns-else-ends_fit c =
    let l = c.ranges.lo in
    let h = c.ranges.hi in
    let d : Decides c.ends_fit.result (Fit c.args.lo c.args.hi) = simp to_z-of_z at c.ends_fit.ensures in
    reach_open c.args.lo c.args.hi (λ f. clash (sym c.if-ends_fit.false ∙ d.1 f))
