use Rattle.std.proofs.Common.{◌≡◌, map}
use Rattle.enclosure.specs.Lines.{left}
use Rattle.enclosure.specs.Rows.{lines, numbers}
use Rattle.enclosure.specs.Judging.{joined}
use Rattle.enclosure.specs.Evaluation.{judged}
use Rattle.enclosure.proofs.Turns.{lined}
use Rattle.enclosure.proofs.judge.judge.Given as goal

-- what is left gives the judgement
abbrev pub invariant-loop-line : goal.invariant-loop-line
invariant-loop-line g l = joined l.all (judged g.E.Enclosure l.m.region.now (numbers l.m.inside) (map (lined l.n) (left l.line-iterator))) ≡ judged g.E.Enclosure l.m.region.now (numbers l.m.inside) (lines l.system)
