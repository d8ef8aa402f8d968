use Rattle.std.proofs.Common.{ltb, get_or, ◌∙◌, rules, tests}
use Rattle.std.proofs.lemmas.Iterator.{YieldsList-from_slice}
use Rattle.std.proofs.lemmas.Iterator.Search.{any_from_yields_List}
use Rattle.narrowing.proofs.Turns.{occurs_any}
use Rattle.narrowing.proofs.parts.Unknown.occurs.Goals as goal

pub returns : goal.returns
returns c = any_from_yields_List (λ t. ltb 0 (get_or t.exponents c.args.self.now.j 0)) _ _ c.any.result c.any.ensures.ran (YieldsList-from_slice c.args.self.now.terms.now cc) (λ x r q k. search (rules, tests)) ∙ occurs_any c.args.self.now.n c.args.self.now.j c.args.self.now.terms.now c.args.self.now.there
