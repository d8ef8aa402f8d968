use Rattle.std.proofs.Common.{◌≡◌, ◌∙◌, w64, SFits, rules}
use Rattle.std.proofs.lemmas.Int.{to_z-of_z}
use Rattle.std.specs.Int.{int_min}
use Rattle.span.proofs.Alike.{lo_fits, hi_fits}
use Rattle.rounding.proofs.ends.least_quotient.Goals as goal

pub returns : goal.returns
returns c =
    let lo = lo_fits c.args.a in
    let hi = hi_fits c.args.a in
    let u : SFits w64 c.less_quotient-p.result = search rules in
    let v : SFits w64 c.less_quotient-q.result = search rules in
    let w : SFits w64 c.min.result = search rules in
    let p = simp to_z-of_z at c.less_quotient-p.ensures in
    let q = simp to_z-of_z at c.less_quotient-q.ensures in
    let r : c.min.result ≡ int_min c.less_quotient-p.result c.less_quotient-q.result = simp to_z-of_z at c.min.ensures.value in
    to_z-of_z w64 c.min.result w ∙ r ∙ (λ i. int_min (p i) (q i))
