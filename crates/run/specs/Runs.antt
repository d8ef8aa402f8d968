-- What the answers of a run's calls say, and what opening promises.
use Rattle.std.specs.Prelude.{◌≡◌, ℕ, ◌≤◌, Ok, Err, Result}
use Rattle.span.specs.declared.region.Region.{Region}
use Rattle.sheet.specs.declared.system.System.{System}
use Rattle.list.specs.Lists.{room}
use Rattle.runlaw.specs.declared.shape.Refusal.{Refusal}
use Rattle.runlaw.specs.declared.shape.Settled.{Settled}
use Rattle.runlaw.specs.Numbers.{take_number, hand_number}
use Rattle.runlaw.specs.Steps.{Answer, ticket, returned, result, refused, opened}
use Rattle.runlaw.specs.Soundness.{Always}
use Rattle.run.specs.declared.shape.Ticket.{Ticket}
use Rattle.run.specs.declared.shape.Unsettled.{Unsettled}
use Rattle.run.specs.declared.lists.Lists.{Lists}
use Rattle.run.specs.declared.run.Run.{Run}
use Rattle.run.specs.declared.run.Unopened.{Unopened}
use Rattle.run.specs.Numbers.{settle_number}

abbrev pub take_says : Result Ticket Refusal → Answer
take_says (Ok t) = ticket
take_says (Err e) = refused (take_number e)

abbrev pub put_says : Result (Unit {0}) Ticket → Answer
put_says (Ok u) = returned
put_says (Err t) = refused hand_number

abbrev pub settle_says : Result Settled Unsettled → Answer
settle_says (Ok o) = result o.outcome o.count
settle_says (Err e) = refused (settle_number e)

-- what opening is refused without
pub record Openable (y : System) (b : Region) (tolerance places : ℕ) : Type 0 where
  pub some : 1 ≤ tolerance
  pub most : tolerance ≤ 2147483647
  pub fits : b.n ≡ y.n
  pub place : 1 ≤ places

-- a run with the starting box alone pending, of which the law holds whatever lawful calls follow; or the lists as they were
abbrev pub Opening : System → Region → ℕ → ℕ → Lists → Result Run Unopened → Type 0
Opening y b tolerance limit l (Ok r) = Openable y b tolerance (room l.pending) × (r ≡ opened y b tolerance limit (room l.pending) (room l.feasible) (room l.undecided)) × Always y b r
Opening y b tolerance limit l (Err u) = (Openable y b tolerance (room l.pending) → ⊥) × (u.lists ≡ l)
