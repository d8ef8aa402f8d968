use Rattle.std.proofs.Common.{◌≡◌, map, drop}
use Rattle.enclosure.specs.Rows.{terms_from, row_of, term, numbers}
use Rattle.enclosure.specs.Evaluation.{ops, variables}
use Rattle.enclosure.proofs.evaluate.total.Given as goal

-- what is left gives the row
abbrev pub invariant-loop-t : goal.invariant-loop-t
invariant-loop-t g l = terms_from (ops g.E.Enclosure) (variables g.E.Enclosure l.m.region.now (numbers l.m.inside)) l.all (map (term l.n) (drop l.t-index l.ts)) ≡ row_of (ops g.E.Enclosure) (variables g.E.Enclosure l.m.region.now (numbers l.m.inside)) (map (term l.n) l.ts)
