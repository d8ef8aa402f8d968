-- What the laws of a contractor say of points of whole numerators over one whole denominator.
use Rattle.std.proofs.Common.{◌≡◌, IfSome, Some, None, Option, MatchOption}
use Rattle.numbers.proofs.Fractions.{fractions}
use Rattle.span.specs.declared.region.Region.{Region}
use Rattle.span.specs.Regions.{In, Narrower}
use Rattle.sheet.specs.declared.system.System.{System}
use Rattle.enclosure.specs.Rows.{lines}
use Rattle.enclosure.specs.Points.{Point, Lies, MetAll, coordinates}
use Rattle.enclosure.proofs.Bridge.{box_at, system_at}
use Rattle.contractor.specs.Laws.{Narrowing, ContractorLaws}

pub answer_inside : (f : Narrowing) → ContractorLaws f → (s : System) (b : Region) (r : Option Region) → r ≡ f s b → b.n ≡ s.n → IfSome r (λ d. Narrower d b)
answer_inside f l s b r q e = rw q (l.within s b e)

pub answer_keeps : (f : Narrowing) → ContractorLaws f → (s : System) (b : Region) (r : Option Region) → r ≡ f s b → b.n ≡ s.n → (p : Point) → Lies p b → MetAll p (lines s) → MatchOption r ⊥ (λ d. Lies p d)
answer_keeps f l s b r q e p i h = rw q (back (f s b) (l.keeps fractions s b e (coordinates p) ((box_at p b).0 i) ((system_at p s).1 h)))
  where
    back : (o : Option Region) → MatchOption o ⊥ (λ d. In fractions (coordinates p) d) → MatchOption o ⊥ (λ d. Lies p d)
    back None k = k
    back (Some d) k = (box_at p d).1 k
