-- The numbers of the refusals of settling.
use Rattle.std.specs.Prelude.{ℕ}
use Rattle.runlaw.specs.Numbers.{hand_number, feasible_number, undecided_number}
use Rattle.run.specs.declared.shape.Unsettled.{Unsettled}
use Rattle.run.specs.declared.shape.Unsettled.TheVariants.{EmptyHand, FeasibleFull, UndecidedFull}

abbrev pub settle_number : Unsettled → ℕ
settle_number (EmptyHand t) = hand_number
settle_number FeasibleFull = feasible_number
settle_number UndecidedFull = undecided_number
