use Rattle.std.proofs.Common.{◌≡◌, refl, ◌∙◌, arith, w32, SFits, rules}
use Rattle.std.proofs.lemmas.Int.{ints, clamps, to_z-of_z}
use Rattle.span.proofs.Alike.{lo_fits, hi_fits}
use Rattle.enclosure.specs.Between.{brought}
use Rattle.enclosure.proofs.Nominals.{variable_made}
use Rattle.enclosure.proofs.nominal.NominalReachEnclosure.variable.Goals as goal

pub returns : goal.returns
returns c =
    let s = c.args.s in
    let lo = lo_fits s in
    let hi = hi_fits s in
    let fi = c.ranges.inside in
    let fr : SFits w32 c.clamp.result = search rules in
    let v = simp to_z-of_z at c.clamp.ensures.value in
    let o = s.ordered in
    let e : c.clamp.result ≡ brought s c.args.inside = v ∙ omega (arith, ints, clamps) in
    variable_made c.args.i s c.args.inside _ refl (to_z-of_z w32 c.clamp.result fr ∙ e)
