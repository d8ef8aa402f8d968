use Rattle.std.proofs.Common.{ltb, take, ◌∙◌, rules, tests}
use Rattle.std.proofs.lemmas.Iterator.{YieldsList-from_slice}
use Rattle.std.proofs.lemmas.Iterator.Search.{position_from_yields_List}
use Rattle.std.proofs.lemmas.Iterator.Adapters.{position_from-zero}
use Rattle.span.specs.Halves.{width}
use Rattle.contractor.specs.Rules.{first_is}
use Rattle.contractor.proofs.Turns.{first_found}
use Rattle.contractor.proofs.rules.first_wider.Goals as goal

pub returns : goal.returns
returns c =
    let b = c.args.b.now in
    let t = c.args.tolerance in
    let e = position_from_yields_List (λ s. ltb t (width s)) _ _ c.position.result c.position.ensures.ran (YieldsList-from_slice (take b.n b.spans) cc) (λ x r q k. search (rules, tests)) in
    record { answer = e ∙ position_from-zero (λ s. ltb t (width s)) (take b.n b.spans) ∙ first_found t b; is = first_is }
