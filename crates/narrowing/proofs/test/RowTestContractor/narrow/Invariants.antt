use Rattle.std.proofs.Common.{◌≡◌, map}
use Rattle.enclosure.specs.Lines.{left}
use Rattle.enclosure.proofs.Turns.{lined}
use Rattle.narrowing.specs.Tests.{tested, row_test}
use Rattle.narrowing.proofs.test.RowTestContractor.narrow.Given as goal

-- what is left of the rows gives the answer
abbrev pub invariant-loop-line : goal.invariant-loop-line
invariant-loop-line l = tested (map (lined l.n) (left l.line-iterator)) l.b ≡ row_test l.system l.b
