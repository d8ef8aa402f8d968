use Rattle.std.proofs.Common.{◌≡◌, arith, w64, SFits}
use Rattle.std.proofs.lemmas.Int.{ints, to_z-of_z}
use Rattle.arithmetic.specs.Reaches.{stretch}
use Rattle.enclosure.proofs.plain.ReachEnclosure.number.Goals as goal

pub returns : goal.returns
returns c =
    let f = c.ranges.c in
    let f' : SFits w64 c.args.c = omega (arith, ints) in
    let e : c.between.result ≡ stretch c.args.c c.args.c = simp to_z-of_z at (rw (c.from.ensures, c.from-2.ensures) at c.between.ensures) in
    e
