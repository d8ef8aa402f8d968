-- A row's line: its number, its span and its nominal, or OPEN.
use Rattle.std.specs.Prelude.{ℕ, zero, suc, ◌+◌, List, [], ◌∷◌, ◌++◌, length, ℤ, codes, decimal}
use Rattle.std.specs.Fmt.{signed_decimal}
use Rattle.span.specs.declared.region.Region.{Region}
use Rattle.span.specs.Text.{span_text}
use Rattle.sheet.specs.declared.system.System.{System}
use Rattle.enclosure.specs.Results.{NominalReach}
use Rattle.span.specs.declared.shape.Reach.TheVariants.{Open, Closed}
use Rattle.enclosure.specs.Rows.{numbers, row_terms}
use Rattle.enclosure.specs.Sound.{nominal_row}

-- i: the row's number, from 1
abbrev pub row_line : ℕ → NominalReach → List ℕ
row_line i Open = codes "R " ++ (decimal i ++ codes " OPEN")
row_line i (Closed a) = codes "R " ++ (decimal i ++ (codes " " ++ (span_text a.span ++ (codes " " ++ signed_decimal a.nominal))))

-- the nominal span of row i, counted from 0, over a box with a number inside each span
abbrev pub nominal_of : System → Region → List ℤ → ℕ → NominalReach
nominal_of s b inside i = nominal_row b (numbers inside) (row_terms s i)

-- the lines of k rows from row i on, each with its newline
abbrev pub row_lines : (ℕ → NominalReach) → ℕ → ℕ → List ℕ
row_lines f i zero = []
row_lines f i (suc k) = row_line (i + 1) (f i) ++ (10 ∷ row_lines f (i + 1) k)

abbrev pub nominal_report : System → Region → List ℤ → List ℕ
nominal_report s b inside = row_lines (nominal_of s b inside) 0 (length s.rows.now)
