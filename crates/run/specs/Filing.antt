-- What becomes of a narrowed box before the held one is spent or put back: what filing it leaves in the lists, and the outcome or the number of the refusal.
use Rattle.std.specs.Prelude.{◌≡◌, ℕ, Bool, true, false, cond, Some, None, Option, Ok, Err, Result, nat_le, refl}
use Rattle.std.proofs.Common.{◌∙◌}
use Rattle.list.specs.Lists.{added, has_room, free}
use Rattle.span.specs.declared.region.Region.{Region}
use Rattle.enclosure.specs.declared.shape.Judgement.{Judgement}
use Rattle.enclosure.specs.declared.shape.Judgement.TheVariants.{Met, Broken, Unsure}
use Rattle.contractor.specs.Laws.{Naming}
use Rattle.runlaw.specs.declared.shape.Cause.{Cause}
use Rattle.runlaw.specs.declared.shape.Cause.TheVariants.{Small, Crowded}
use Rattle.runlaw.specs.declared.shape.Outcome.{Outcome}
use Rattle.runlaw.specs.declared.shape.Outcome.TheVariants.{Discarded, Feasible, Small as SMALL, Crowded as CROWDED, Split}
use Rattle.runlaw.specs.Numbers.{feasible_number, undecided_number}
use Rattle.runlaw.specs.Laws.{Judging}
use Rattle.runlaw.specs.Steps.{State, Answer, moved, again, filed_as, halved, spent, result, refused, met, undecided_end, unsure, judged, narrowed}
use Rattle.run.specs.declared.shape.Unsettled.{Unsettled}
use Rattle.run.specs.Numbers.{settle_number}

pub data Fate : Type 0 where
  goes : Outcome → Fate
  stays : ℕ → Fate

abbrev pub fate_of : Result Outcome Unsettled → Fate
fate_of (Ok o) = goes o
fate_of (Err e) = stays (settle_number e)

-- to the feasible boxes, if there is a place
abbrev pub met_filed : State → Region → State × Fate
met_filed s c = (moved s s.settled s.hand s.pending (added s.feasible_places s.feasible c) s.undecided, cond (has_room s.feasible_places s.feasible) (goes Feasible) (stays feasible_number))

-- to the undecided boxes, if there is a place
abbrev pub undecided_filed : State → Region → Cause → Outcome → State × Fate
undecided_filed s c q o = (moved s s.settled s.hand s.pending s.feasible (added s.undecided_places s.undecided (filed_as c q)), cond (has_room s.undecided_places s.undecided) (goes o) (stays undecided_number))

-- by the variable that the rule names, and whether two pending places are free
abbrev pub unsure_by : State → Region → Option ℕ → Bool → State × Fate
unsure_by s c None two = undecided_filed s c Small SMALL
unsure_by s c (Some j) true = (halved s c j, goes Split)
unsure_by s c (Some j) false = undecided_filed s c Crowded CROWDED

abbrev pub unsure_filed : State → Region → Option ℕ → State × Fate
unsure_filed s c o = unsure_by s c o (nat_le 2 (free s.pending_places s.pending))

abbrev pub judged_filed : State → Naming → Region → Judgement → State × Fate
judged_filed s r c Met = met_filed s c
judged_filed s r c Broken = (s, goes Discarded)
judged_filed s r c Unsure = unsure_filed s c (r c s.tolerance)

abbrev pub filed : State → Naming → Judging → Option Region → State × Fate
filed s r j None = (s, goes Discarded)
filed s r j (Some c) = judged_filed s r c (j s.system c)

-- the held box is spent, or the box as taken is put back
abbrev pub concluded : Region → State → Fate → State × Answer
concluded b t (goes o) = (spent t, result o (spent t).settled)
concluded b t (stays n) = (again t b, refused n)

-- ---- that is what a settle of b leaves and answers
met_ends : (s : State) (b c : Region) (t : Bool) → has_room s.feasible_places s.feasible ≡ t → concluded b (met_filed s c).0 (met_filed s c).1 ≡ met s b c t
met_ends s b c true e = rw e refl
met_ends s b c false e = rw e refl

undecided_ends : (s : State) (b c : Region) (q : Cause) (o : Outcome) (t : Bool) → has_room s.undecided_places s.undecided ≡ t → concluded b (undecided_filed s c q o).0 (undecided_filed s c q o).1 ≡ undecided_end s b c q o t
undecided_ends s b c q o true e = rw e refl
undecided_ends s b c q o false e = rw e refl

unsure_ends : (s : State) (b c : Region) (o : Option ℕ) (two : Bool) → concluded b (unsure_by s c o two).0 (unsure_by s c o two).1 ≡ unsure s b c o two
unsure_ends s b c None two = undecided_ends s b c Small SMALL _ refl
unsure_ends s b c (Some j) true = refl
unsure_ends s b c (Some j) false = undecided_ends s b c Crowded CROWDED _ refl

judged_ends : (s : State) (r : Naming) (b c : Region) (k : Judgement) → concluded b (judged_filed s r c k).0 (judged_filed s r c k).1 ≡ judged s r b c k
judged_ends s r b c Met = met_ends s b c _ refl
judged_ends s r b c Broken = refl
judged_ends s r b c Unsure = unsure_ends s b c (r c s.tolerance) _

pub narrowed_ends : (s : State) (r : Naming) (j : Judging) (b : Region) (o : Option Region) → concluded b (filed s r j o).0 (filed s r j o).1 ≡ narrowed s r j b o
narrowed_ends s r j b None = refl
narrowed_ends s r j b (Some c) = judged_ends s r b c (j s.system c)

-- it goes, and t is what filing left
pub goes_on : (s : State) (r : Naming) (j : Judging) (b : Region) (o : Option Region) (t : State) (w : Outcome) → t ≡ (filed s r j o).0 → goes w ≡ (filed s r j o).1 → spent t ≡ (narrowed s r j b o).0
goes_on s r j b o t w p q = (λ i. (concluded b (p i) (q i)).0) ∙ (λ i. (narrowed_ends s r j b o i).0)

pub filed_unsure : (s : State) (r : Naming) (j : Judging) (c : Region) (o : Option Region) (named : Option ℕ) → Some c ≡ o → Unsure ≡ j s.system c → named ≡ r c s.tolerance → unsure_filed s c named ≡ filed s r j o
filed_unsure s r j c o named eo ej en = rw (← eo, ← ej, en) refl
