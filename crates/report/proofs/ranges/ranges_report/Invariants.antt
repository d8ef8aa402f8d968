use Rattle.std.proofs.Common.{◌≡◌, ◌++◌, drop, codes, vec_items}
use Rattle.report.specs.Ranges.{boxes_lines, undecided_lines}
use Rattle.report.proofs.ranges.ranges_report.Given as goal

-- with the lines that are left it is the report
abbrev pub invariant-feasible : goal.invariant-feasible
invariant-feasible l = vec_items l.out ++ boxes_lines (codes "F") l.report.variables.now (drop l.b-index l.report.feasible.now) ≡ vec_items l.initial.out ++ boxes_lines (codes "F") l.report.variables.now l.report.feasible.now

abbrev pub invariant-undecided : goal.invariant-undecided
invariant-undecided l = vec_items l.out ++ undecided_lines l.report.variables.now (drop l.f-index l.report.undecided.now) ≡ vec_items l.initial.out ++ undecided_lines l.report.variables.now l.report.undecided.now

abbrev pub invariant-pending : goal.invariant-pending
invariant-pending l = vec_items l.out ++ boxes_lines (codes "P") l.report.variables.now (drop l.b-index l.report.pending.now) ≡ vec_items l.initial.out ++ boxes_lines (codes "P") l.report.variables.now l.report.pending.now
