use Rattle.std.proofs.Common.{◌≡◌, ◌++◌, drop, length, vec_items}
use Rattle.report.specs.Ranges.{ranges_text}
use Rattle.report.proofs.ranges.push_ranges.Given as goal

-- with what is left it is the answer
abbrev pub invariant-loop-v : goal.invariant-loop-v
invariant-loop-v l = vec_items l.line ++ ranges_text (drop (length l.yielded) l.variables) (drop (length l.yielded) l.spans) ≡ vec_items l.initial.line ++ ranges_text l.variables l.spans
