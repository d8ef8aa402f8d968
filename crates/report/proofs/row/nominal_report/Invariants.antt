use Rattle.std.proofs.Common.{◌≡◌, ◌-◌, ◌++◌, length, vec_items}
use Rattle.report.specs.Rows.{row_lines, nominal_of, nominal_report}
use Rattle.report.proofs.row.nominal_report.Given as goal

-- with the lines that are left it is the report
abbrev pub invariant-loop-i : goal.invariant-loop-i
invariant-loop-i l = vec_items l.out ++ row_lines (nominal_of l.system l.m.region.now l.m.inside) l.i (length l.system.rows.now - l.i) ≡ nominal_report l.system l.m.region.now l.m.inside
