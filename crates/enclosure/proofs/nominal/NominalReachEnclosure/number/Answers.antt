use Rattle.std.proofs.Common.{◌≡◌, arith, w64, SFits}
use Rattle.std.proofs.lemmas.Int.{ints, to_z-of_z}
use Rattle.enclosure.specs.Plain.{plain_number}
use Rattle.enclosure.specs.Nominals.{nominal_at, nominal_in}
use Rattle.enclosure.proofs.Nominals.{number_made, number_around}
use Rattle.enclosure.proofs.nominal.NominalReachEnclosure.number.Goals as goal

pub around-requires : goal.around-requires
around-requires c =
    let f = c.ranges.c in
    let f' : SFits w64 c.args.c = omega (arith, ints) in
    let r : c.between-r.result ≡ plain_number c.args.c = simp to_z-of_z at (rw (c.from.ensures, c.from-2.ensures) at c.between-r.ensures) in
    rw c.from-3.ensures (simp to_z-of_z (number_around c.args.c c.between-r.result r))

pub returns : goal.returns
returns c =
    let f = c.ranges.c in
    let f' : SFits w64 c.args.c = omega (arith, ints) in
    let r : c.between-r.result ≡ plain_number c.args.c = simp to_z-of_z at (rw (c.from.ensures, c.from-2.ensures) at c.between-r.ensures) in
    let e : nominal_at c.around.result ≡ nominal_in c.between-r.result c.args.c = simp to_z-of_z at (rw c.from-3.ensures at c.around.ensures.count) in
    number_made c.args.c c.around.result c.between-r.result r c.around.ensures.span e
