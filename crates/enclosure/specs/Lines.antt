-- The rows of a system one after another, each with its own terms: those that stand behind the terms of the rows before it.
use Rattle.std.specs.Prelude.{List, [], ◌∷◌, take, drop}
use Rattle.sheet.specs.declared.shape.Row.{Row}
use Rattle.sheet.specs.declared.shape.Term.{Term}
use Rattle.sheet.specs.declared.shape.Bounds.{Bounds}
use Rattle.enclosure.specs.declared.lines.Line.{Line}
use Rattle.enclosure.specs.declared.lines.Lines.{Lines}

-- what a row asks, and its terms
abbrev pub Part : Type 0
Part = Bounds × List Term

abbrev pub parts : List Row → List Term → List Part
parts [] ts = []
parts (r ∷ rs) ts = (r.bounds, take r.own ts) ∷ parts rs (drop r.own ts)

abbrev pub told : Line → Part
told l = (l.bounds, l.terms.now)

-- the parts that are still to come
abbrev pub left : Lines → List Part
left l = parts l.rows.now l.terms.now
