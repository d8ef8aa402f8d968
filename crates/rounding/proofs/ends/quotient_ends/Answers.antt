use Rattle.std.proofs.Common.{◌≡◌, ◌∙◌, w64, SFits, rules}
use Rattle.std.proofs.lemmas.Int.{to_z-of_z}
use Rattle.rounding.proofs.Dividing.{ratio_some}
use Rattle.rounding.proofs.ends.quotient_ends.Goals as goal

pub returns : goal.returns
returns c =
    let e : c.in_ok-b.b.span ≡ c.args.b = c.in_ok-b.ensures in
    let l : SFits w64 c.least_quotient.result = search rules in
    let g : SFits w64 c.greatest_quotient.result = search rules in
    let lo = to_z-of_z w64 c.least_quotient.result l ∙ rw e at c.least_quotient.ensures in
    let hi = to_z-of_z w64 c.greatest_quotient.result g ∙ rw e at c.greatest_quotient.ensures in
    ratio_some c.args.a c.args.b _ (rw e at c.in_ok-b.b.apart) (λ i. record { from = lo i; to = hi i })
