-- The run: its state, the calls, and what each call answers and leaves.
use Rattle.std.specs.Prelude.{ℕ, ◌+◌, Bool, true, false, List, [], ◌∷◌, ◌++◌, Some, None, Option, nat_le, nat_lt}
use Rattle.span.specs.declared.region.Region.{Region}
use Rattle.sheet.specs.declared.system.System.{System}
use Rattle.runlaw.specs.declared.shape.Filed.{Filed}
use Rattle.runlaw.specs.declared.shape.Cause.{Cause}
use Rattle.runlaw.specs.declared.shape.Cause.TheVariants.{Small, Crowded}
use Rattle.enclosure.specs.declared.shape.Judgement.{Judgement}
use Rattle.enclosure.specs.declared.shape.Judgement.TheVariants.{Met, Broken, Unsure}
use Rattle.runlaw.specs.declared.shape.Outcome.{Outcome}
use Rattle.runlaw.specs.declared.shape.Outcome.TheVariants.{Discarded, Feasible, Small as SMALL, Crowded as CROWDED, Split}
use Rattle.runlaw.specs.declared.shape.Verdict.{Verdict}
use Rattle.runlaw.specs.declared.shape.Verdict.TheVariants.{Some as SOME, Unfinished as UNFINISHED, Unsure as UNSURE, None as NONE}
use Rattle.span.specs.Regions.{lower_half, upper_half}
use Rattle.list.specs.Lists.{newest, older, added, has_room, free}
use Rattle.contractor.specs.Laws.{Narrowing, Naming, RuleLaws}
use Rattle.runlaw.specs.declared.shape.Refusal.TheVariants.{HandFull, NothingPending, AtLimit}
use Rattle.runlaw.specs.Numbers.{take_number, hand_number, feasible_number, undecided_number}
use Rattle.runlaw.specs.Laws.{Judging, NarrowingLaws, JudgingLaws}

-- what a run has at a moment: each list oldest first, beside the number of places that it lies over
pub record State : Type 0 where
  pub system : System
  pub tolerance : ℕ
  pub limit : ℕ
  pub settled : ℕ
  pub hand : Option Region
  pub pending : List Region
  pub pending_places : ℕ
  pub feasible : List Region
  pub feasible_places : ℕ
  pub undecided : List Filed
  pub undecided_places : ℕ

-- a settle brings what its contractor, its splitting rule and its enclosure kind mean
pub data Call : Type 0 where
  take : Call
  put_back : Call
  settle : Narrowing → Naming → Judging → Call
  verdict : Call

pub data Answer : Type 0 where
  ticket : Answer
  returned : Answer
  -- with the settled count
  result : Outcome → ℕ → Answer
  says : Verdict → Answer
  refused : ℕ → Answer

-- what a call can change: the count, the hand and the three lists
abbrev pub moved : State → ℕ → Option Region → List Region → List Region → List Filed → State
moved s k h p f u = record { system = s.system; tolerance = s.tolerance; limit = s.limit; settled = k; hand = h; pending = p; pending_places = s.pending_places; feasible = f; feasible_places = s.feasible_places; undecided = u; undecided_places = s.undecided_places }

-- by the hand, the newest pending box, and whether the count is below the limit
abbrev pub taking : State → Option Region → Option Region → Bool → State × Answer
taking s (Some h) o below = (s, refused (take_number HandFull))
taking s None None below = (s, refused (take_number NothingPending))
taking s None (Some b) false = (s, refused (take_number AtLimit))
taking s None (Some b) true = (moved s s.settled (Some b) (older s.pending) s.feasible s.undecided, ticket)

-- the box as taken is pending again, at the end
abbrev pub again : State → Region → State
again s b = moved s s.settled None (added s.pending_places s.pending b) s.feasible s.undecided

abbrev pub putting : State → Option Region → State × Answer
putting s None = (s, refused hand_number)
putting s (Some b) = (again s b, returned)

abbrev pub filed_as : Region → Cause → Filed
filed_as c q = record { region = c; cause = q }

-- b was taken and narrowed to c, which is to be filed undecided: by whether an undecided place is free
abbrev pub undecided_end : State → Region → Region → Cause → Outcome → Bool → State × Answer
undecided_end s b c q o true = (moved s (s.settled + 1) None s.pending s.feasible (s.undecided ++ filed_as c q ∷ []), result o (s.settled + 1))
undecided_end s b c q o false = (again s b, refused undecided_number)

abbrev pub judged_undecided : State → Region → Region → Cause → Outcome → State × Answer
judged_undecided s b c q o = undecided_end s b c q o (has_room s.undecided_places s.undecided)

-- the halves of c are pending, the upper put first
abbrev pub halved : State → Region → ℕ → State
halved s c j = moved s s.settled s.hand (s.pending ++ upper_half j c ∷ lower_half j c ∷ []) s.feasible s.undecided

-- the held box is spent, and counted
abbrev pub spent : State → State
spent s = moved s (s.settled + 1) None s.pending s.feasible s.undecided

-- c is unsure: by the variable that the rule names, and whether two pending places are free
abbrev pub unsure : State → Region → Region → Option ℕ → Bool → State × Answer
unsure s b c None two = judged_undecided s b c Small SMALL
unsure s b c (Some j) true = (spent (halved s c j), result Split (s.settled + 1))
unsure s b c (Some j) false = judged_undecided s b c Crowded CROWDED

abbrev pub discarded : State → State × Answer
discarded s = (spent s, result Discarded (s.settled + 1))

-- b was taken and narrowed to c, which is met
abbrev pub met : State → Region → Region → Bool → State × Answer
met s b c true = (moved s (s.settled + 1) None s.pending (s.feasible ++ c ∷ []) s.undecided, result Feasible (s.settled + 1))
met s b c false = (again s b, refused feasible_number)

abbrev pub judged_met : State → Region → Region → State × Answer
judged_met s b c = met s b c (has_room s.feasible_places s.feasible)

abbrev pub judged_unsure : State → Region → Region → Option ℕ → State × Answer
judged_unsure s b c o = unsure s b c o (nat_le 2 (free s.pending_places s.pending))

abbrev pub judged : State → Naming → Region → Region → Judgement → State × Answer
judged s r b c Met = judged_met s b c
judged s r b c Broken = discarded s
judged s r b c Unsure = judged_unsure s b c (r c s.tolerance)

abbrev pub narrowed : State → Naming → Judging → Region → Option Region → State × Answer
narrowed s r j b None = discarded s
narrowed s r j b (Some c) = judged s r b c (j s.system c)

abbrev pub settling : State → Narrowing → Naming → Judging → Option Region → State × Answer
settling s f r j None = (s, refused hand_number)
settling s f r j (Some b) = narrowed s r j b (f s.system b)

-- by the feasible list, the pending list, the hand and the undecided list
abbrev pub verdict_by : List Region → List Region → Option Region → List Filed → Verdict
verdict_by (b ∷ bs) p h u = SOME
verdict_by [] (b ∷ bs) h u = UNFINISHED
verdict_by [] [] (Some b) u = UNFINISHED
verdict_by [] [] None (b ∷ bs) = UNSURE
verdict_by [] [] None [] = NONE

abbrev pub verdict_of : State → Verdict
verdict_of s = verdict_by s.feasible s.pending s.hand s.undecided

abbrev pub step : Call → State → State × Answer
step take s = taking s s.hand (newest s.pending) (nat_lt s.settled s.limit)
step put_back s = putting s s.hand
step (settle f r j) s = settling s f r j s.hand
step verdict s = (s, says (verdict_of s))

-- where a list of calls leads
abbrev pub after : List Call → State → State
after [] s = s
after (c ∷ cs) s = after cs (step c s).0

-- the number of accepted settles among the calls: those that give one of the five results
abbrev pub counts : Answer → ℕ
counts ticket = 0
counts returned = 0
counts (result o k) = 1
counts (says v) = 0
counts (refused k) = 0

abbrev pub accepted : List Call → State → ℕ
accepted [] s = 0
accepted (c ∷ cs) s = counts (step c s).1 + accepted cs (step c s).0

-- the parts that a call brings keep their laws
abbrev pub Lawful : Call → Type 0
Lawful take = Unit {0}
Lawful put_back = Unit {0}
Lawful (settle f r j) = NarrowingLaws f × RuleLaws r × JudgingLaws j
Lawful verdict = Unit {0}

-- the run as opened: the starting box alone is pending
abbrev pub opened : System → Region → ℕ → ℕ → ℕ → ℕ → ℕ → State
opened s b tolerance limit pp fp up = record { system = s; tolerance = tolerance; limit = limit; settled = 0; hand = None; pending = b ∷ []; pending_places = pp; feasible = []; feasible_places = fp; undecided = []; undecided_places = up }
