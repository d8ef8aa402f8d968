use Rattle.std.proofs.Common.{◌≡◌, ◌∙◌, w32, to_z, of_z, arith}
use Rattle.std.proofs.lemmas.Int.{ints, clamps}
use Rattle.std.specs.Int.{int_min, int_max}
use Rattle.span.specs.Making.{made}
use Rattle.arithmetic.proofs.reach.within.Goals as goal

pub returns-in-Closed-clause-answer : goal.returns-in-Closed-clause-answer
returns-in-Closed-clause-answer c =
    let s = c.args.s in
    let u = c.in-Closed.u in
    let lo : to_z w32 (of_z w32 c.max.result) ≡ int_max s.lo u.lo = omega (arith, ints, clamps) in
    let hi : to_z w32 (of_z w32 c.min.result) ≡ int_min s.hi u.hi = omega (arith, ints, clamps) in
    rw c.in-Closed.is (c.new.ensures ∙ (λ i. made (lo i) (hi i)))
