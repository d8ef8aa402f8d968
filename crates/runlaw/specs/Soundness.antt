-- What holds of an opened run after any list of lawful calls.
use Rattle.std.specs.Prelude.{◌≡◌, ℕ, ◌-◌, ◌*◌, ◌≤◌, ◌⊎◌, List, [], ◌∷◌, None, MatchOption}
use Rattle.std.specs.List.{AllByRecursion}
use Rattle.span.specs.declared.region.Region.{Region}
use Rattle.sheet.specs.declared.system.System.{System}
use Rattle.runlaw.specs.declared.shape.Verdict.TheVariants.{None as NONE}
use Rattle.runlaw.specs.Sizes.{size}
use Rattle.enclosure.specs.Points.{Point, Lies}
use Rattle.runlaw.specs.Laws.{Meets}
use Rattle.runlaw.specs.Steps.{State, Call, after, accepted, Lawful, verdict_of}

-- some element of the list has the property
abbrev pub Any : {A : Type 0} → (A → Type 0) → List A → Type 0
Any P [] = ⊥
Any P (x ∷ xs) = P x ⊎ Any P xs

-- the point lies in a pending, held, feasible or undecided box
pub data Covers (s : State) (x : Point) : Type 0 where
  pending : Any (λ b. Lies x b) s.pending → Covers s x
  held : MatchOption s.hand ⊥ (λ b. Lies x b) → Covers s x
  feasible : Any (λ b. Lies x b) s.feasible → Covers s x
  undecided : Any (λ f. Lies x f.region) s.undecided → Covers s x

-- no box is pending, held, feasible or undecided
pub record Empty (s : State) : Type 0 where
  pub pending : s.pending ≡ []
  pub held : s.hand ≡ None
  pub feasible : s.feasible ≡ []
  pub undecided : s.undecided ≡ []

-- s: the state at some moment; b: the starting box; k: the settles accepted until then
pub record Sound (system : System) (b : Region) (s : State) (k : ℕ) : Type 0 where
  pub same : s.system ≡ system
  -- every point of the starting box that meets all rows lies in a box of the run
  pub covered : (x : Point) → Lies x b → Meets x system → Covers s x
  -- every point of every feasible box meets all rows
  pub met : AllByRecursion (λ c. (x : Point) → Lies x c → Meets x system) s.feasible
  -- the verdict is NONE exactly when no box is left, and then no point of the starting box meets all rows
  pub none : verdict_of s ≡ NONE → Empty s
  pub empty : Empty s → verdict_of s ≡ NONE
  pub without : verdict_of s ≡ NONE → (x : Point) → Lies x b → Meets x system → ⊥
  -- the settled count is the number of accepted settles, and at most 2P − 1
  pub counted : s.settled ≡ k
  pub bounded : s.settled ≤ 2 * size b - 1

-- at every moment: after any list of lawful calls
abbrev pub Always : System → Region → State → Type 0
Always system b s = (cs : List Call) → AllByRecursion Lawful cs → Sound system b (after cs s) (accepted cs s)
