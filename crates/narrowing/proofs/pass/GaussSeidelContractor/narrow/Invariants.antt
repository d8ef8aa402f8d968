use Rattle.std.proofs.Common.{◌≡◌, ◌-◌, map}
use Rattle.enclosure.specs.Lines.{left}
use Rattle.enclosure.proofs.Turns.{lined}
use Rattle.contractor.specs.Steps.{bind}
use Rattle.narrowing.specs.Passes.{line, narrowed_from, passed, pass}
use Rattle.narrowing.proofs.pass.GaussSeidelContractor.narrow.Given as goal

-- what is left of the row and of the rows gives the answer
abbrev pub invariant-loop-j : goal.invariant-loop-j
invariant-loop-j l = bind (narrowed_from (line l.n l.line.bounds l.line.terms.now) (l.n - l.j) l.j l.cur) (passed l.n (map (lined l.n) (left l.line-iterator))) ≡ pass l.system l.b

abbrev pub invariant-loop-line : goal.invariant-loop-line
invariant-loop-line l = passed l.n (map (lined l.n) (left l.line-iterator)) l.cur ≡ pass l.system l.b
