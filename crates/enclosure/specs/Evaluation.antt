-- The one evaluator: rows over a box in any kind of enclosure.
use Rattle.std.specs.Prelude.{ℕ, List, [], ◌∷◌, ℤ}
use Rattle.numbers.specs.Rows.{Term}
use Rattle.span.specs.declared.region.Region.{Region}
use Rattle.enclosure.specs.declared.shape.Judgement.{Judgement}
use Rattle.enclosure.specs.declared.shape.Judgement.TheVariants.{Met}
use Rattle.enclosure.specs.declared.enclosure.Enclosure.{Ghosts}
use Rattle.span.specs.Regions.{at}
use Rattle.enclosure.specs.Rows.{Ops, Line, row_of}
use Rattle.enclosure.specs.Judging.{joined, judged_row}

abbrev pub ops : {X : Type 0} → Ghosts X → Ops X
ops E = record { number = E.numbered; plus = E.plus; times = E.times; power = E.raised }

-- the variables over a box, with a number inside each span
abbrev pub variables : {X : Type 0} → Ghosts X → Region → (ℕ → ℤ) → ℕ → X
variables E b inside i = E.coordinate i (at b i) (inside i)

abbrev pub enclosed : {X : Type 0} → Ghosts X → Region → (ℕ → ℤ) → List Term → X
enclosed E b inside ts = row_of (ops E) (variables E b inside) ts

abbrev pub judged_line : {X : Type 0} → Ghosts X → Region → (ℕ → ℤ) → Line → Judgement
judged_line E b inside l = judged_row l.bounds (E.spanned (enclosed E b inside l.terms))

-- broken if some row is, met if all are, and otherwise unsure
unfoldable pub judged : {X : Type 0} → Ghosts X → Region → (ℕ → ℤ) → List Line → Judgement
judged E b inside [] = Met
judged E b inside (l ∷ ls) = joined (judged_line E b inside l) (judged E b inside ls)
