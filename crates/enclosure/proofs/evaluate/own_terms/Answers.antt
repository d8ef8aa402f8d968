use Rattle.std.proofs.Common.{sym, ap, ◌∙◌, rules}
use Rattle.std.proofs.lemmas.Iterator.Consumers.{nth_from_yields_List, YieldsList-from_first}
use Rattle.enclosure.specs.Lines.{parts, told, left}
use Rattle.enclosure.proofs.Turns.{terms_in, own_part, terms_told}
use Rattle.enclosure.proofs.evaluate.own_terms.Goals as goal

pub returns : goal.returns
returns c =
    let rows = c.args.system.now.rows.now in
    let ts = c.args.system.now.terms.now in
    let n = nth_from_yields_List c.nth.result c.nth.new.self c.args.i c.nth.ensures.ran (YieldsList-from_first told left (parts rows ts) (λ i. parts (c.of.ensures.rows i) (c.of.ensures.terms i))) in
    terms_told c.nth.result c.map_or.result.now (search rules) ∙ ap terms_in n ∙ sym (own_part rows ts c.args.i)
