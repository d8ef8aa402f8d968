use Rattle.span.specs.declared.shape.Reach.TheVariants.{Closed}
use Rattle.std.proofs.Common.{refl, ◌≡◌, ◌+ℤ◌, arith, w64, SFits}
use Rattle.std.proofs.lemmas.Int.{ints, to_z-of_z}
use Rattle.enclosure.specs.Nominals.{nominal_at, nominal_in}
use Rattle.enclosure.proofs.Nominals.{nominal_fits, sum_around, sum_made}
use Rattle.enclosure.proofs.nominal.closed_sum.Goals as goal

pub around-requires : goal.around-requires
around-requires c =
    let a = c.args.a in
    let b = c.args.b in
    let fa = nominal_fits a in
    let fb = nominal_fits b in
    let ea : c.from.result ≡ a.nominal = simp to_z-of_z at c.from.ensures in
    let eb : c.from-2.result ≡ b.nominal = simp to_z-of_z at c.from-2.ensures in
    let fa' : SFits w64 a.nominal = omega (arith, ints) in
    let fb' : SFits w64 b.nominal = omega (arith, ints) in
    let fs : SFits w64 (a.nominal +ℤ b.nominal) = omega (arith, ints) in
    rw (ea, eb) (simp to_z-of_z (sum_around a b c.sum-s.result c.sum-s.ensures.answer))

pub returns : goal.returns
returns c =
    let a = c.args.a in
    let b = c.args.b in
    let fa = nominal_fits a in
    let fb = nominal_fits b in
    let ea : c.from.result ≡ a.nominal = simp to_z-of_z at c.from.ensures in
    let eb : c.from-2.result ≡ b.nominal = simp to_z-of_z at c.from-2.ensures in
    let fa' : SFits w64 a.nominal = omega (arith, ints) in
    let fb' : SFits w64 b.nominal = omega (arith, ints) in
    let fs : SFits w64 (a.nominal +ℤ b.nominal) = omega (arith, ints) in
    let e : nominal_at c.around.result ≡ nominal_in c.sum-s.result (a.nominal +ℤ b.nominal) = simp to_z-of_z at (rw (ea, eb) at c.around.ensures.count) in
    sum_made (Closed a) (Closed b) a b c.around.result c.sum-s.result refl refl c.sum-s.ensures.answer c.around.ensures.span e
