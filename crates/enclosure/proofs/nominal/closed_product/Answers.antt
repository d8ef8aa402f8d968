use Rattle.span.specs.declared.shape.Reach.TheVariants.{Closed}
use Rattle.std.proofs.Common.{refl, ◌≡◌, ◌*ℤ◌, ap, ◌∙◌, w64, SFits, rules}
use Rattle.std.proofs.lemmas.Int.{to_z-of_z}
use Rattle.numbers.specs.Rounding.{floor}
use Rattle.enclosure.specs.Nominals.{nominal_at, nominal_in}
use Rattle.enclosure.proofs.Nominals.{nominal_fits, product_around, product_made}
use Rattle.enclosure.proofs.nominal.closed_product.Goals as goal

pub around-requires : goal.around-requires
around-requires c =
    let a = c.args.a in
    let b = c.args.b in
    let fa = nominal_fits a in
    let fb = nominal_fits b in
    let fm : SFits w64 c.product_down.result = search rules in
    let m : c.product_down.result ≡ floor (a.nominal *ℤ b.nominal) 65536 = simp to_z-of_z at c.product_down.ensures in
    simp to_z-of_z (rw m (product_around a b c.product-s.result c.product-s.ensures.answer))

pub returns : goal.returns
returns c =
    let a = c.args.a in
    let b = c.args.b in
    let fa = nominal_fits a in
    let fb = nominal_fits b in
    let fm : SFits w64 c.product_down.result = search rules in
    let m : c.product_down.result ≡ floor (a.nominal *ℤ b.nominal) 65536 = simp to_z-of_z at c.product_down.ensures in
    let e : nominal_at c.around.result ≡ nominal_in c.product-s.result c.product_down.result = simp to_z-of_z at c.around.ensures.count in
    product_made (Closed a) (Closed b) a b c.around.result c.product-s.result refl refl c.product-s.ensures.answer c.around.ensures.span
    (e ∙ ap (nominal_in c.product-s.result) m)
