use Rattle.std.proofs.Common.{◌*ℤ◌, arith, w64, SFits, rules}
use Rattle.std.proofs.lemmas.Int.{ints, to_z-of_z}
use Rattle.numbers.proofs.Rounding.{greatest_is}
use Rattle.span.proofs.Alike.{lo_fits}
use Rattle.rounding.proofs.Products.{product_fits}
use Rattle.rounding.proofs.ends.product_ends.Goals as goal

pub ceil_units-requires : goal.ceil_units-requires
ceil_units-requires c =
    let a = c.args.a in
    let b = c.args.b in
    let f : SFits w64 c.greatest_product.result = search rules in
    let e = c.greatest_product.ensures in
    let g = greatest_is (a.lo *ℤ b.lo) (a.lo *ℤ b.hi) (a.hi *ℤ b.lo) (a.hi *ℤ b.hi) in
    let p = (product_fits a.lo b.lo (lo_fits a) (lo_fits b)).1 in
    simp to_z-of_z (rw e (let h = g.0 in omega (arith, ints)))
