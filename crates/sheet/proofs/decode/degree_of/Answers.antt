use Rattle.std.proofs.Common.{◌≡◌, sym, refl, ◌∙◌, rules}
use Rattle.std.specs.List.{sum_by}
use Rattle.std.proofs.lemmas.List.Recursion.{is_sum_by}
use Rattle.numbers.specs.Rows.{degree}
use Rattle.sheet.proofs.decode.degree_of.Goals as goal

pub returns : goal.returns
returns c =
    let e : c.sum.result ≡ sum_by (λ b. b) c.args.bytes.now = search rules in
    e ∙ sym (is_sum_by degree (λ b. b) refl (λ _ _. refl) c.args.bytes.now)
