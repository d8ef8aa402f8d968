-- The numbers of a run's refusals.
use Rattle.std.specs.Prelude.{ℕ}
use Rattle.runlaw.specs.declared.shape.Refusal.{Refusal}
use Rattle.runlaw.specs.declared.shape.Refusal.TheVariants.{HandFull, NothingPending, AtLimit}

abbrev pub take_number : Refusal → ℕ
take_number HandFull = 21
take_number NothingPending = 22
take_number AtLimit = 23

-- no run was opened
abbrev pub open_number : ℕ
open_number = 20

-- a settle or a put back with an empty hand
abbrev pub hand_number : ℕ
hand_number = 24

-- a settle that found the feasible list full, or the undecided list
abbrev pub feasible_number : ℕ
feasible_number = 25

abbrev pub undecided_number : ℕ
undecided_number = 26
