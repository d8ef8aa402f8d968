use Rattle.std.proofs.Common.{◌≡◌, take, drop}
use Rattle.enclosure.specs.Rows.{factors, term_of, term, numbers}
use Rattle.enclosure.specs.Evaluation.{ops, variables}
use Rattle.enclosure.proofs.evaluate.term.Given as goal

-- what is left gives the term
abbrev pub invariant-loop-i : goal.invariant-loop-i
invariant-loop-i g l = factors (ops g.E.Enclosure) (variables g.E.Enclosure l.m.region.now (numbers l.m.inside)) l.all l.i (drop l.i (take l.n l.t.exponents)) ≡ term_of (ops g.E.Enclosure) (variables g.E.Enclosure l.m.region.now (numbers l.m.inside)) (term l.n l.t)
