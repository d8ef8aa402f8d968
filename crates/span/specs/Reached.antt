-- Results of computations with spans, and what is made of two of them.
use Rattle.std.specs.Prelude.{◌≡◌}
use Rattle.span.specs.declared.shape.Span.{Span}
use Rattle.span.specs.declared.shape.Reach.{Reach as ReachOf}
use Rattle.span.specs.declared.shape.Reach.TheVariants.{Open, Closed}

-- a result with no more to it than its span
abbrev pub Reach : Type 0
Reach = ReachOf Span

-- r is one of the results that P allows for two closed ones; an open one gives open
abbrev pub BothBy : {A B C : Type 0} → (A → B → ReachOf C → Type 0) → ReachOf A → ReachOf B → ReachOf C → Type 0
BothBy P Open t r = r ≡ Open
BothBy P (Closed s) Open r = r ≡ Open
BothBy P (Closed s) (Closed t) r = P s t r
