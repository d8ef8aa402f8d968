-- What a contractor and a splitting rule are, and the laws that they owe.
use Rattle.std.specs.Prelude.{◌≡◌, ℕ, ◌<◌, ◌≤◌, IfSome, Option, MatchOption}
use Rattle.numbers.specs.Numbers.{Numbers}
use Rattle.span.specs.declared.region.Region.{Region}
use Rattle.span.specs.Halves.{width}
use Rattle.span.specs.Regions.{at, In, Narrower}
use Rattle.sheet.specs.declared.system.System.{System}
use Rattle.enclosure.specs.Rows.{lines, MeetsAll}

-- from a system and a box to none or a box
abbrev pub Narrowing : Type 0
Narrowing = System → Region → Option Region

pub record ContractorLaws (f : Narrowing) : Type 1 where
  -- the answer lies inside the given box, with the same number of variables
  pub within : (s : System) (b : Region) → b.n ≡ s.n → IfSome (f s b) (λ c. Narrower c b)
  -- it holds every point of the box that meets all rows, and there is none where none is answered
  pub keeps : (N : Numbers) (s : System) (b : Region) → b.n ≡ s.n → (x : ℕ → N.carrier) → In N x b → MeetsAll N x (lines s) → MatchOption (f s b) ⊥ (λ c. In N x c)

-- from a box and a tolerance to the number of a variable, counted from 0, or nothing
abbrev pub Naming : Type 0
Naming = Region → ℕ → Option ℕ

-- variable j of the box is wider than t
abbrev pub Wider : ℕ → Region → ℕ → Type 0
Wider t b j = (j < b.n) × (t < width (at b j))

-- no variable of the box is wider than t
abbrev pub NoneWider : ℕ → Region → Type 0
NoneWider t b = (i : ℕ) → i < b.n → width (at b i) ≤ t

-- nothing is named exactly when no variable is wider than the tolerance, and otherwise one that is
pub record RuleLaws (r : Naming) : Type 0 where
  pub names : (b : Region) (t : ℕ) → MatchOption (r b t) (NoneWider t b) (Wider t b)
