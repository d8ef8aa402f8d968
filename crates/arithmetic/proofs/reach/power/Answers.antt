use Rattle.std.proofs.Common.{sym, ap, ◌∙◌, arith}
use Rattle.span.specs.Reached.{Reach}
use Rattle.arithmetic.specs.Reaches.{power, product}
use Rattle.arithmetic.proofs.Results.{power_zero, power_one, power_more}
use Rattle.arithmetic.proofs.reach.power.Goals as goal

pub returns-then-k-eq0 : goal.returns-then-k-eq0
returns-then-k-eq0 c = record { answer = c.between.ensures ∙ power_zero c.args.r ∙ ap (power c.args.r) (let e = c.if-k-eq0.true in omega arith); holds = record {} }

pub loop-i-init : goal.loop-i-init
loop-i-init c = sym (power_one c.args.r)

pub loop-i-preserved : goal.loop-i-preserved
loop-i-preserved c = c.product-all.ensures.answer ∙ ap (λ (r : Reach). product r c.args.r) c.loop-i.invariant ∙ sym (power_more c.args.r c.loop-i._i)

pub returns : goal.returns
returns c = record { answer = c.loop-i.invariant ∙ ap (power c.args.r) (omega arith); holds = record {} }
