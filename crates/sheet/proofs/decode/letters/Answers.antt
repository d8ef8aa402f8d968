use Rattle.std.proofs.Common.{◌≡◌, ◌&&◌, refl, ◌∙◌, rules, tests}
use Rattle.std.specs.List.{list_all}
use Rattle.std.proofs.lemmas.Iterator.{YieldsList-from_slice}
use Rattle.std.proofs.lemmas.Iterator.Search.{all_from_yields_List}
use Rattle.std.proofs.lemmas.List.Recursion.{same_from_clauses}
use Rattle.format.specs.Reading.{is_letter, are_letters}
use Rattle.sheet.proofs.decode.letters.Goals as goal

pub returns : goal.returns
returns c =
    let xs = c.args.bytes.now in
    let r : c.all.result ≡ list_all is_letter xs = all_from_yields_List is_letter _ _ c.all.result c.all.ensures.ran (YieldsList-from_slice xs cc) (λ x b q k. search (rules, tests)) in
    r ∙ same_from_clauses (list_all is_letter) are_letters (λ x b. is_letter x && b) refl (λ _ _. refl) (λ _ _. refl) xs
