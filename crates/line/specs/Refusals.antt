-- The line that tells a refused sheet: REFUSED n AT place IN FIELD, or IN SHEET.
use Rattle.std.specs.Prelude.{ℕ, List, ◌++◌, codes, decimal}
use Rattle.line.specs.declared.shape.Reader.{Reader}
use Rattle.line.specs.declared.shape.Reader.TheVariants.{Field, Sheet}
use Rattle.line.specs.declared.shape.Refusal.{Refusal}

-- which reader refused
abbrev pub reader : Reader → List ℕ
reader Field = codes "FIELD"
reader Sheet = codes "SHEET"

abbrev pub refusal_line : Refusal → List ℕ
refusal_line r = codes "REFUSED " ++ (decimal r.number ++ (codes " AT " ++ (decimal r.place ++ (codes " IN " ++ reader r.reader))))
