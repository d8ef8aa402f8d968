-- The row test: none if the plain spans call a row broken.
use Rattle.std.specs.Prelude.{List, [], ◌∷◌, Some, None, Option}
use Rattle.span.specs.declared.region.Region.{Region}
use Rattle.enclosure.specs.declared.shape.Judgement.{Judgement}
use Rattle.enclosure.specs.declared.shape.Judgement.TheVariants.{Met, Broken, Unsure}
use Rattle.enclosure.specs.Rows.{Line, lines}
use Rattle.enclosure.specs.Judging.{judged_row}
use Rattle.enclosure.specs.Plain.{plain_row}
use Rattle.contractor.specs.Laws.{Narrowing}

abbrev pub unless_broken : Judgement → Option Region → Option Region
unless_broken Met o = o
unless_broken Unsure o = o
unless_broken Broken o = None

unfoldable pub tested : List Line → Region → Option Region
tested [] b = Some b
tested (l ∷ ls) b = unless_broken (judged_row l.bounds (plain_row b l.terms)) (tested ls b)

abbrev pub row_test : Narrowing
row_test s b = tested (lines s) b
