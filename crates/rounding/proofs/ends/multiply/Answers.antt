use Rattle.std.proofs.Common.{◌*ℤ◌, arith, w64, SFits}
use Rattle.std.proofs.lemmas.Int.{ints, to_z-of_z}
use Rattle.rounding.proofs.Products.{product_fits}
use Rattle.rounding.proofs.ends.multiply.Goals as goal

pub returns : goal.returns
returns c =
    let f = c.ranges.a in
    let g = c.ranges.b in
    let f' : SFits w64 c.args.a = omega (arith, ints) in
    let g' : SFits w64 c.args.b = omega (arith, ints) in
    let p : SFits w64 (c.args.a *ℤ c.args.b) = (product_fits c.args.a c.args.b f g).0 in
    rw (c.from.ensures, c.from-2.ensures) (simp to_z-of_z)
