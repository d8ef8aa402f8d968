use Rattle.std.proofs.Common.{◌≡◌, ◌||◌, map, refl, ◌∙◌, rules}
use Rattle.std.specs.List.{list_any}
use Rattle.std.specs.Str.{bytes_eq}
use Rattle.std.proofs.lemmas.Iterator.{YieldsList-from_slice}
use Rattle.std.proofs.lemmas.Iterator.Search.{any_from_yields_List}
use Rattle.std.proofs.lemmas.List.Recursion.{same_from_clauses}
use Rattle.format.specs.Reading.{taken}
use Rattle.sheet.specs.declared.variable.Variable.{Variable}
use Rattle.sheet.specs.Held.{name_is, variable_is}
use Rattle.sheet.proofs.decode.name_taken.Goals as goal

pub returns : goal.returns
returns c =
    let vs = c.args.variables.now in
    let n = name_is c.args.name.now in
    let r : c.any.result ≡ list_any (λ (v : Variable). bytes_eq (name_is v.name) n) vs = any_from_yields_List (λ (v : Variable). bytes_eq (name_is v.name) n) _ _ c.any.result c.any.ensures.ran (YieldsList-from_slice vs cc) (λ x b q k. let e : b ≡ bytes_eq (name_is x.now.name) n = search rules in search rules) in
    r ∙ same_from_clauses (list_any (λ (v : Variable). bytes_eq (name_is v.name) n)) (λ ws. taken n (map variable_is ws)) (λ v b. bytes_eq (name_is v.name) n || b) refl (λ _ _. refl) (λ _ _. refl) vs
