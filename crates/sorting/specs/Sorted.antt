-- What the report of a sheet tells: a run that was taken to its end and keeps the law.
use Rattle.std.specs.Prelude.{◌≡◌, ℕ, List, length, map, Some, None, Option}
use Rattle.list.specs.Lists.{items}
use Rattle.span.specs.declared.region.Region.{Region}
use Rattle.span.specs.Regions.{boxed}
use Rattle.sheet.specs.declared.sheet.Sheet.{Sheet}
use Rattle.sheet.specs.declared.system.System.{System}
use Rattle.sheet.specs.Sheets.{variables_of, span_of}
use Rattle.enclosure.specs.contracts.plain.ReachEnclosure.TheImpl.{ghosts}
use Rattle.contractor.specs.Laws.{Narrowing}
use Rattle.contractor.specs.Layers.{then_of, until}
use Rattle.contractor.specs.Rules.{widest_of}
use Rattle.narrowing.specs.Tests.{row_test}
use Rattle.narrowing.specs.Passes.{pass}
use Rattle.runlaw.specs.Laws.{judging}
use Rattle.runlaw.specs.Steps.{State, opened, verdict_of}
use Rattle.runlaw.specs.Soundness.{Sound}
use Rattle.runlaw.specs.Endings.{Finished}
use Rattle.run.specs.Runs.{Openable}
use Rattle.report.specs.Ranges.{ranges_report}

-- the row test and then the pass, up to four times
abbrev pub narrowing : Narrowing
narrowing = until 4 (then_of row_test pass)

-- the box of the variables' spans
abbrev pub start_of : Sheet → Option Region
start_of s = boxed (map span_of (variables_of s))

-- the system of a sheet's variables and rows
pub record Rows (s : Sheet) (y : System) : Type 0 where
  pub n : y.n ≡ length (variables_of s)
  pub rows : y.rows.now ≡ items s.rows
  pub terms : y.terms.now ≡ items s.terms

-- the text tells the end of a run over three lists of 64 places, at most 10000 boxes settled, from the sheet's starting box
pub record Told (s : Sheet) (text : List ℕ) : Type 0 where
  pub start : Region
  pub from : start_of s ≡ Some start
  pub system : System
  pub rows : Rows s system
  pub end : State
  pub stop : ℕ
  pub finished : Finished narrowing widest_of (judging ghosts) (opened system start s.heading.tolerance 10000 64 64 64) stop end
  pub sound : Sound system start end end.settled
  pub text_is : text ≡ ranges_report (variables_of s) (verdict_of end) end.settled stop end.feasible end.undecided end.pending

-- no run can be opened
abbrev pub Untold : Sheet → Type 0
Untold s = (start : Region) (system : System) → start_of s ≡ Some start → Rows s system → Openable system start s.heading.tolerance 64 → ⊥

abbrev pub Sorted : Sheet → Option (List ℕ) → Type 0
Sorted s None = Untold s
Sorted s (Some text) = Told s text
