-- What a run that is opened and taken to its end promises: how it went, and the whole law of what it leaves.
use Rattle.std.specs.Prelude.{◌≡◌, ℕ, Ok, Err, Result}
use Rattle.span.specs.declared.region.Region.{Region}
use Rattle.sheet.specs.declared.system.System.{System}
use Rattle.contractor.specs.Laws.{Narrowing, Naming}
use Rattle.runlaw.specs.Laws.{Judging}
use Rattle.runlaw.specs.Steps.{opened}
use Rattle.runlaw.specs.Soundness.{Sound}
use Rattle.runlaw.specs.Endings.{Finished}
use Rattle.solving.specs.declared.shape.Ended.{Ended}
use Rattle.solving.specs.Numbers.{stop_number}
use Rattle.list.specs.Lists.{room}
use Rattle.run.specs.declared.lists.Lists.{Lists}
use Rattle.run.specs.declared.run.Unopened.{Unopened}
use Rattle.run.specs.Runs.{Openable}

-- the starting box, the tolerance and the limit, and the lists
abbrev pub Solved : Narrowing → Naming → Judging → System → Region → ℕ → ℕ → Lists → Result Ended Unopened → Type 0
Solved f r j y b tolerance limit l (Ok e) = Openable y b tolerance (room l.pending) × Finished f r j (opened y b tolerance limit (room l.pending) (room l.feasible) (room l.undecided)) (stop_number e.stop) e.run × Sound y b e.run e.run.settled
Solved f r j y b tolerance limit l (Err u) = (Openable y b tolerance (room l.pending) → ⊥) × (u.lists ≡ l)
