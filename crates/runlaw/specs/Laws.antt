-- What a contractor and an enclosure kind amount to for a run, and the law that each keeps at every point. (A splitting rule's law speaks of no points.)
use Rattle.std.specs.Prelude.{◌≡◌, IfSome, MatchOption}
use Rattle.span.specs.declared.region.Region.{Region}
use Rattle.span.specs.Regions.{Narrower, middles}
use Rattle.sheet.specs.declared.system.System.{System}
use Rattle.enclosure.specs.declared.shape.Judgement.{Judgement}
use Rattle.enclosure.specs.declared.enclosure.Enclosure.{Ghosts}
use Rattle.enclosure.specs.Rows.{lines, numbers}
use Rattle.enclosure.specs.Evaluation.{judged}
use Rattle.enclosure.specs.Points.{Point, Lies, MetAll}
use Rattle.enclosure.specs.Sound.{Tells}
use Rattle.contractor.specs.Laws.{Narrowing}

-- the meaning of an enclosure kind
abbrev pub Judging : Type 0
Judging = System → Region → Judgement

-- a box judged in the kind E, with its lower middles as the numbers inside
abbrev pub judging : {X : Type 0} → Ghosts X → Judging
judging E s b = judged E b (numbers (middles b)) (lines s)

-- the point meets every row of the system
abbrev pub Meets : Point → System → Type 0
Meets x s = MetAll x (lines s)

-- the answer lies inside the box and holds all its points that meet every row; none is answered only where there is none
pub record NarrowingLaws (f : Narrowing) : Type 0 where
  pub within : (s : System) (b : Region) → b.n ≡ s.n → IfSome (f s b) (λ c. Narrower c b)
  pub keeps : (s : System) (b : Region) → b.n ≡ s.n → (x : Point) → Lies x b → Meets x s → MatchOption (f s b) ⊥ (λ c. Lies x c)

-- met means that every point of the box meets every row, broken that none does
pub record JudgingLaws (j : Judging) : Type 0 where
  pub right : (s : System) (b : Region) → b.n ≡ s.n → (x : Point) → Lies x b → Tells (j s b) (Meets x s)
