use Rattle.std.proofs.Common.{◌∙◌, arith, length-set, w32, SFits, rules}
use Rattle.std.proofs.lemmas.Int.{to_z-of_z}
use Rattle.narrowing.proofs.Turns.{degree_lower}
use Rattle.narrowing.proofs.parts.lower.Goals as goal

pub invariant_of-result : goal.invariant_of-result
invariant_of-result c =
    let t = c.args.t.now in
    let f : SFits w32 t.coefficient = search rules in
    record {
      whole = length-set t.exponents c.args.j _ ∙ t.whole;
      least = rw (to_z-of_z w32 t.coefficient f) t.least;
      small = let h = degree_lower c.args.j t.exponents in let k = t.small in omega arith;
    }
