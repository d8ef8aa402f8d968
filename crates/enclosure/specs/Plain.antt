-- The plain span as an enclosure: it holds the same at every point.
use Rattle.std.specs.Prelude.{ℕ, List, ℤ}
use Rattle.numbers.specs.Numbers.{Numbers}
use Rattle.numbers.specs.Rows.{Term}
use Rattle.numbers.specs.Ends.{only}
use Rattle.span.specs.declared.shape.Span.{Span}
use Rattle.span.specs.Reached.{Reach}
use Rattle.span.specs.declared.shape.Reach.TheVariants.{Closed}
use Rattle.arithmetic.specs.Reaches.{reach, sum, product, power}
use Rattle.span.specs.Holding.{Held}
use Rattle.arithmetic.specs.Inclusion as H
use Rattle.numbers.proofs.Ends as S
use Rattle.span.specs.declared.region.Region.{Region}
use Rattle.span.specs.Regions.{at}
use Rattle.enclosure.specs.Rows.{Ops, row_of}
use Rattle.enclosure.specs.Laws.{EnclosureLaws}

-- open only where c is no count
abbrev pub plain_number : ℤ → Reach
plain_number c = reach (only c)

abbrev pub plain_variable : ℕ → Span → ℤ → Reach
plain_variable i s inside = Closed s

abbrev pub plain_holds : (N : Numbers) → Reach → (ℕ → N.carrier) → N.carrier → Type 0
plain_holds N r x v = Held N r v

abbrev pub plain : Ops Reach
plain = record { number = plain_number; plus = sum; times = product; power = power }

-- the plain span of a row over a box
abbrev pub plain_row : Region → List Term → Reach
plain_row b ts = row_of plain (λ i. Closed (at b i)) ts

pub plain_laws : EnclosureLaws plain_number plain_variable sum product power (λ r. r) plain_holds
plain_laws = record {
  numbers = λ N x c. H.reach_holds N (only c) _ (record { low = (S.count_held N c).down; high = (S.count_held N c).up });
  variables = λ N x i s m h. h;
  sums = λ N x a b p q. H.sum_holds N a b p q;
  products = λ N x a b p q. H.product_holds N a b p q;
  powers = λ N x a k p. H.power_holds N a k p;
  spans = λ N x a p h. h;
}
