use Rattle.std.proofs.Common.{◌≡◌, pos, ◌-ℤ◌, ◌*ℤ◌, ◌∙◌, arith, w64, SFits, rules}
use Rattle.std.proofs.lemmas.Int.{ints, to_z-of_z}
use Rattle.std.specs.Int.{int_div_euclid}
use Rattle.rounding.proofs.Dividing.{floor_below, scaled_fits, under_it}
use Rattle.rounding.proofs.ends.floor_ratio.Goals as goal

pub returns-else-q-gt0 : goal.returns-else-q-gt0
returns-else-q-gt0 c =
    let fa = c.ranges.a in
    let fq = c.ranges.q in
    let x : c.from-p.result ≡ c.args.a = simp to_z-of_z at c.from-p.ensures in
    let y : c.from-q.result ≡ c.args.q = simp to_z-of_z at c.from-q.ensures in
    let s = scaled_fits c.args.a fa in
    let p = c.args.a *ℤ pos 65536 in
    let fp : SFits w64 p = omega (arith, ints) in
    let fn : SFits w64 (pos 0 -ℤ p) = omega (arith, ints) in
    let ga : SFits w64 c.args.a = omega (arith, ints) in
    let gq : SFits w64 c.args.q = omega (arith, ints) in
    let gn : SFits w64 (pos 0 -ℤ c.args.q) = omega (arith, ints) in
    let fr : SFits w64 c.div_euclid-else-q-gt0.result = search rules in
    let t = simp (to_z-of_z, y) at c.if-q-gt0.false in
    let under = under_it c.args.q (omega (arith, ints)) c.requires in
    let e : c.div_euclid-else-q-gt0.result ≡ int_div_euclid (pos 0 -ℤ p) (pos 0 -ℤ c.args.q) = simp (to_z-of_z, x, y) at c.div_euclid-else-q-gt0.ensures in
    to_z-of_z w64 c.div_euclid-else-q-gt0.result fr ∙ e ∙ floor_below p c.args.q under
