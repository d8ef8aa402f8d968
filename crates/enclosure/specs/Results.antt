-- What a computation with nominal spans gives.
use Rattle.span.specs.declared.shape.Reach.{Reach}
use Rattle.enclosure.specs.declared.shape.NominalSpan.{NominalSpan}

abbrev pub NominalReach : Type 0
NominalReach = Reach NominalSpan
