use Rattle.std.proofs.Common.{◌≡◌, ◌∙◌, w64, SFits, rules}
use Rattle.std.proofs.lemmas.Int.{to_z-of_z}
use Rattle.std.specs.Int.{int_max}
use Rattle.span.proofs.Alike.{lo_fits, hi_fits}
use Rattle.rounding.proofs.ends.greatest_quotient.Goals as goal

pub returns : goal.returns
returns c =
    let lo = lo_fits c.args.a in
    let hi = hi_fits c.args.a in
    let u : SFits w64 c.greater_quotient-p.result = search rules in
    let v : SFits w64 c.greater_quotient-q.result = search rules in
    let w : SFits w64 c.max.result = search rules in
    let p = simp to_z-of_z at c.greater_quotient-p.ensures in
    let q = simp to_z-of_z at c.greater_quotient-q.ensures in
    let r : c.max.result ≡ int_max c.greater_quotient-p.result c.greater_quotient-q.result = simp to_z-of_z at c.max.ensures.value in
    to_z-of_z w64 c.max.result w ∙ r ∙ (λ i. int_max (p i) (q i))
