-- The product of a box's widths, by which the count of settles is bounded.
use Rattle.std.specs.Prelude.{ℕ, ◌*◌, max, List, [], ◌∷◌, take}
use Rattle.span.specs.declared.shape.Span.{Span}
use Rattle.span.specs.declared.region.Region.{Region}
use Rattle.span.specs.Halves.{width}

-- a width 0 taken as 1
abbrev pub product : List Span → ℕ
product [] = 1
product (s ∷ ss) = max 1 (width s) * product ss

-- over the spans of its variables
abbrev pub size : Region → ℕ
size b = product (take b.n b.spans)
