use Rattle.std.proofs.Common.{pos, sym, ap, ◌∙◌, arith}
use Rattle.enclosure.specs.Results.{NominalReach}
use Rattle.enclosure.specs.Nominals.{nominal_power, nominal_product}
use Rattle.enclosure.proofs.Nominals.{power_zero, power_more, number_around}
use Rattle.enclosure.proofs.nominal.power_of.Goals as goal

pub around-all-requires : goal.around-all-requires
around-all-requires c = number_around (pos 65536) c.between-one.result c.between-one.ensures

pub loop-i-init : goal.loop-i-init
loop-i-init c = power_zero c.args.p c.around-all.result c.between-one.result c.between-one.ensures c.around-all.ensures.span c.around-all.ensures.count

pub loop-i-preserved : goal.loop-i-preserved
loop-i-preserved c = c.product_of-all.ensures ∙ ap (λ (r : NominalReach). nominal_product r c.args.p) c.loop-i.invariant ∙ sym (power_more c.args.p c.loop-i._i)

pub returns : goal.returns
returns c = c.loop-i.invariant ∙ ap (nominal_power c.args.p) (omega arith)
