-- The numbers with which a run to the end stops.
use Rattle.std.specs.Prelude.{ℕ}
use Rattle.runlaw.specs.Numbers.{take_number, feasible_number, undecided_number}
use Rattle.solving.specs.declared.shape.Stop.{Stop}
use Rattle.solving.specs.declared.shape.Stop.TheVariants.{Untaken, FeasibleFull, UndecidedFull}

abbrev pub stop_number : Stop → ℕ
stop_number (Untaken r) = take_number r
stop_number FeasibleFull = feasible_number
stop_number UndecidedFull = undecided_number
