use Rattle.std.proofs.Common.{◌≡◌, ◌-◌, ◌++◌, map, take, replicate}
use Rattle.sheet.specs.declared.variable.Variable.{Variable}
use Rattle.sheet.proofs.sheet.filled.Given as goal

abbrev pub invariant-loop-i : goal.invariant-loop-i
invariant-loop-i g l = (f : Variable → _) → ((v : _) (x : _) → goal.F-post g l.part v x → x ≡ f v.now) → l.all ≡ map f (take l.i l.variables.items) ++ replicate (8 - l.i) l.fn.spare
