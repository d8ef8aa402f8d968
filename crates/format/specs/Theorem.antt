-- The reader accepts the well formed sheets that fit, and nothing else, and gives what they say.
use Rattle.std.specs.Prelude.{◌≡◌, ℕ, ◌<◌, ◌≤◌, List, length, Ok}
use Rattle.std.specs.List.{AllByRecursion}
use Rattle.format.specs.Content.{Content, WellFormed, term_total}
use Rattle.format.specs.Written.{written}
use Rattle.format.specs.Reading.{read_sheet}

abbrev pub Byte : ℕ → Type 0
Byte b = b < 256

-- xs is the sheet that says c, and the places suffice
pub record Says (xs : List ℕ) (row_places term_places : ℕ) (c : Content) : Type 0 where
  pub well_formed : WellFormed c
  pub is : xs ≡ written c
  pub short : length xs ≤ 4096
  pub rows : length c.rows ≤ row_places
  pub terms : term_total c.rows ≤ term_places

abbrev pub Exact : Type 0
Exact = (xs : List ℕ) → AllByRecursion Byte xs → (row_places term_places : ℕ) (c : Content) →
    (read_sheet xs row_places term_places ≡ Ok c → Says xs row_places term_places c) × (Says xs row_places term_places c → read_sheet xs row_places term_places ≡ Ok c)
