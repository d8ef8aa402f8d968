-- A run to the end: boxes are taken and settled until a call is refused.
use Rattle.std.specs.Prelude.{◌≡◌, ℕ, zero, suc, List, [], ◌∷◌}
use Rattle.std.specs.List.{AllByRecursion}
use Rattle.contractor.specs.Laws.{Narrowing, Naming}
use Rattle.runlaw.specs.Laws.{Judging}
use Rattle.runlaw.specs.Steps.{State, Call, take, settle, ticket, refused, step, after, accepted, Lawful}

-- some list of lawful calls leads from s to t
pub record Reached (s t : State) : Type 0 where
  pub calls : List Call
  pub lawful : AllByRecursion Lawful calls
  pub leads : t ≡ after calls s

module _ (f : Narrowing) (r : Naming) (j : Judging) where
  -- k boxes are taken and settled, one after the other
  abbrev pub rounds : ℕ → List Call
  rounds zero = []
  rounds (suc k) = take ∷ settle f r j ∷ rounds k

  -- that leads from s to t, and each of the settles was accepted
  pub record Going (s t : State) : Type 0 where
    pub made : ℕ
    pub all : accepted (rounds made) s ≡ made
    pub leads : t ≡ after (rounds made) s

  -- the next take is refused with this number, or the next settle is; t is what that leaves
  pub data Stops (s : State) (number : ℕ) (t : State) : Type 0 where
    at_take : t ≡ (step take s).0 → refused number ≡ (step take s).1 → Stops s number t
    at_settle : ticket ≡ (step take s).1 → t ≡ (step (settle f r j) (step take s).0).0 → refused number ≡ (step (settle f r j) (step take s).0).1 → Stops s number t

  pub record Finished (s : State) (number : ℕ) (t : State) : Type 0 where
    pub last : State
    pub going : Going s last
    pub stops : Stops last number t
