use Rattle.std.proofs.Common.{◌≡◌, ℕ, zero, suc, min, List, [], ◌∷◌, map, length, drop, refl, rules, arith}
use Rattle.std.proofs.lemmas.Slice.Zip.{zip_end}
use Rattle.std.proofs.lemmas.Grind.{common_steps}
use Rattle.sheet.specs.declared.variable.Name.{Name}
use Rattle.sheet.specs.Held.{name_is}
use Rattle.listing.specs.Listing.{powers_words}
use Rattle.listing.proofs.words.push_powers.Goals as goal

-- past the names, or past the exponents, there is nothing more
powers_end : (ns : List Name) (es : List ℕ) (i : ℕ) → i ≡ min (length ns) (length es) → powers_words (map name_is (drop i ns)) (drop i es) ≡ []
powers_end [] es zero e = refl
powers_end [] es (suc i) e = absurd (omega arith)
powers_end (n ∷ ns) [] zero e = refl
powers_end (n ∷ ns) [] (suc i) e = absurd (omega arith)
powers_end (n ∷ ns) (x ∷ es) zero e = absurd (omega arith)
powers_end (n ∷ ns) (x ∷ es) (suc i) e = powers_end ns es i (omega arith)

pub returns : goal.returns
returns c =
    let n : length c.loop-name.yielded ≡ min (length c.args.names.now) (length c.args.exponents.now) = zip_end _ _ _ _ _ c.next.new.self _ (search rules) (search rules) c.loop-name.yielded_by c.in-None.is c.next.ensures.steps in
    let e = powers_end c.args.names.now c.args.exponents.now (length c.loop-name.yielded) n in
    grind (arith, common_steps)
