-- What a reach says of a row, and what the rows say of a system.
use Rattle.std.specs.Prelude.{ℤ}
use Rattle.span.specs.declared.shape.Span.{Span}
use Rattle.span.specs.Reached.{Reach}
use Rattle.span.specs.declared.shape.Reach.TheVariants.{Open, Closed}
use Rattle.span.specs.Making.{at_most?}
use Rattle.sheet.specs.declared.shape.Bounds.{Bounds}
use Rattle.sheet.specs.declared.shape.Bounds.TheVariants.{AtLeast, AtMost, Between}
use Rattle.enclosure.specs.declared.shape.Judgement.{Judgement}
use Rattle.enclosure.specs.declared.shape.Judgement.TheVariants.{Met, Broken, Unsure}

-- all of it, or none, or neither is shown
abbrev pub judgement : {A B : Type 0} → Dec A → Dec B → Judgement
judgement (yes all) b = Met
judgement (no n) (yes some) = Unsure
judgement (no n) (no none) = Broken

-- broken if one is, met if both are
abbrev pub joined : Judgement → Judgement → Judgement
joined Met k = k
joined Broken k = Broken
joined Unsure Met = Unsure
joined Unsure Broken = Broken
joined Unsure Unsure = Unsure

-- the row asks for at least lo
abbrev pub at_least : ℤ → Span → Judgement
at_least lo s = judgement (at_most? lo s.lo) (at_most? lo s.hi)

-- the row asks for at most hi
abbrev pub at_most : ℤ → Span → Judgement
at_most hi s = judgement (at_most? s.hi hi) (at_most? s.lo hi)

abbrev pub judged_span : Bounds → Span → Judgement
judged_span (AtLeast lo) s = at_least lo s
judged_span (AtMost hi) s = at_most hi s
judged_span (Between t) s = joined (at_least t.lo s) (at_most t.hi s)

-- an open span is unsure
abbrev pub judged_row : Bounds → Reach → Judgement
judged_row k Open = Unsure
judged_row k (Closed s) = judged_span k s
