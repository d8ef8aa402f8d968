use Rattle.std.proofs.Common.{◌≡◌, ap, ◌∙◌, arith}
use Rattle.numbers.specs.Rows.{degree}
use Rattle.sheet.proofs.Decoding.{degree_widened}
use Rattle.sheet.proofs.decode.term.Goals as goal

pub invariant_of-result-clause-small : goal.invariant_of-result-clause-small
invariant_of-result-clause-small c =
    let powers = c.after-powers.result.now in
    let e : degree c.eight.result ≡ degree powers = ap degree c.eight.ensures ∙ degree_widened powers in
    omega (arith, c.degree_of.ensures)
