-- One turn of the row test and of the pass, by the number of the row that comes next.
use Rattle.std.proofs.Common.{◌≡◌, ℕ, ◌+◌, ◌<◌, ◌≤◌, List, ◌∷◌, map, length, get_or, take, drop, Some, Option, sym}
use Rattle.span.specs.Reached.{Reach}
use Rattle.span.specs.declared.region.Region.{Region}
use Rattle.sheet.specs.declared.shape.Term.{Term as Written}
use Rattle.sheet.specs.declared.shape.Row.{Row}
use Rattle.enclosure.specs.declared.shape.Judgement.{Judgement}
use Rattle.enclosure.specs.Rows.{Line, lines_from, term}
use Rattle.enclosure.specs.Judging.{judged_row}
use Rattle.enclosure.specs.Plain.{plain_row}
use Rattle.report.proofs.Steps.{line_turn, lines_done}
use Rattle.contractor.specs.Steps.{bind}
use Rattle.narrowing.specs.Tests.{unless_broken, tested}
use Rattle.narrowing.specs.Passes.{line, narrowed_from, passed}

-- row r stands at i, and its terms first in what is left
module _ (n : ℕ) (rows : List Row) (i : ℕ) (rest : List Written) (b : Region) where
  module _ (r : Row) (own more : List Written) (er : r ≡ get_or rows i r) (h : i < length rows) (eo : own ≡ take r.own rest) (em : more ≡ drop r.own rest) where
    turn : (F : List Line → Option Region) → F (line n r.bounds own ∷ lines_from n (drop (i + 1) rows) more) ≡ F (lines_from n (drop i rows) rest)
    turn F = rw (eo, em) (sym (line_turn F n rows i r rest er h))

    pub row_turn : bind (narrowed_from (line n r.bounds own) n 0 b) (passed n (lines_from n (drop (i + 1) rows) more)) ≡ passed n (lines_from n (drop i rows) rest) b
    unfolding passed
    row_turn = turn (λ (ls : List Line). passed n ls b)

    pub test_turn : (whole : Reach) (j : Judgement) → whole ≡ plain_row b (map (term n) own) → j ≡ judged_row r.bounds whole → unless_broken j (tested (lines_from n (drop (i + 1) rows) more) b) ≡ tested (lines_from n (drop i rows) rest) b
    unfolding tested
    test_turn whole j ew ej = rw (ej, ew) (turn (λ (ls : List Line). tested ls b))

  pub rows_done : length rows ≤ i → passed n (lines_from n (drop i rows) rest) b ≡ Some b
  unfolding passed
  rows_done h = lines_done (λ (ls : List Line). passed n ls b) n rows i rest h

  pub tested_done : length rows ≤ i → tested (lines_from n (drop i rows) rest) b ≡ Some b
  unfolding tested
  tested_done h = lines_done (λ (ls : List Line). tested ls b) n rows i rest h
