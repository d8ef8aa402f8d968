use Rattle.std.proofs.Common.{◌≡◌, map, drop}
use Rattle.span.specs.declared.shape.Reach.TheVariants.{Closed}
use Rattle.enclosure.specs.Rows.{term, terms_from}
use Rattle.span.specs.Regions.{at}
use Rattle.enclosure.specs.Plain.{plain, plain_row}
use Rattle.narrowing.specs.Passes.{others}
use Rattle.narrowing.proofs.parts.Unknown.remainder.Given as goal

-- what is left gives the sum
abbrev pub invariant-loop-t : goal.invariant-loop-t
invariant-loop-t l = terms_from plain (λ i. Closed (at l.b i)) l.all (others l.j (map (term l.n) (drop l.t-index l.terms))) ≡ plain_row l.b (others l.j (map (term l.n) l.terms))
