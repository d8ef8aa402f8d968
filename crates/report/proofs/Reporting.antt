-- One line or one range more of a report.
use Rattle.std.proofs.Common.{◌≡◌, ℕ, suc, ◌+◌, ◌-◌, ◌<◌, ◌≤◌, [], ◌∷◌, ◌++◌, sym, ap, ◌∙◌, append_assoc, arith}
use Rattle.enclosure.specs.Results.{NominalReach}
use Rattle.report.specs.Rows.{row_line, row_lines}

pub lines_next : (f : ℕ → NominalReach) (i n : ℕ) → i < n → row_lines f i (n - i) ≡ (row_line (i + 1) (f i) ++ (10 ∷ [])) ++ row_lines f (i + 1) (n - (i + 1))
lines_next f i n h =
    let e : n - i ≡ suc (n - (i + 1)) = omega arith in
    ap (row_lines f i) e ∙ sym (append_assoc (row_line (i + 1) (f i)) (10 ∷ []) (row_lines f (i + 1) (n - (i + 1))))

pub lines_end : (f : ℕ → NominalReach) (i n : ℕ) → n ≤ i → row_lines f i (n - i) ≡ []
lines_end f i n h = let e : n - i ≡ 0 = omega arith in ap (row_lines f i) e
