use Rattle.std.proofs.Common.{◌≡◌, ℕ, ◌+◌, List, [], ◌∷◌, ◌++◌, length, vec_items, ap, ◌∙◌, arith}
use Rattle.line.proofs.Growing.{turn, done, two}
use Rattle.report.specs.Rows.{row_line, nominal_of}
use Rattle.report.proofs.Reporting.{lines_next, lines_end}
use Rattle.report.proofs.row.nominal_report.Goals as goal

pub loop-i-preserved : goal.loop-i-preserved
loop-i-preserved c =
    let f = nominal_of c.args.system.now c.args.m.now.region.now c.args.m.now.inside in
    let line : vec_items c.in_ok-line.line ≡ row_line (c.loop-i.i + 1) (f c.loop-i.i) = c.in_ok-line.ensures ∙ ap (row_line (c.loop-i.i + 1)) c.row.ensures.answer in
    turn _ (vec_items c.loop-i.out) (row_line (c.loop-i.i + 1) (f c.loop-i.i) ++ (10 ∷ [])) _ _ _
    (two _ (vec_items c.push_bytes.new.line) (vec_items c.loop-i.out) (row_line (c.loop-i.i + 1) (f c.loop-i.i)) (10 ∷ []) (c.in_ok-push_bytes.ensures ∙ ap (λ (xs : List ℕ). vec_items c.loop-i.out ++ xs) (c.as_slice.ensures.value ∙ line)) c.in_ok-push_text.ensures)
    (lines_next f c.loop-i.i (length c.args.system.now.rows.now) (omega (arith, ap length c.rows-rows.ensures))) c.loop-i.invariant

pub returns : goal.returns
returns c = done _ _ _ (lines_end (nominal_of c.args.system.now c.args.m.now.region.now c.args.m.now.inside) c.loop-i.i (length c.args.system.now.rows.now) (omega (arith, ap length c.rows-rows.ensures))) c.loop-i.invariant
