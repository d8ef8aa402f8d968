-- What taking and settling leads to: a list of lawful calls, of which the law holds, and less and less below the limit.
use Rattle.std.proofs.Common.{◌≡◌, ℕ, zero, suc, ◌+◌, ◌-◌, ◌<◌, Bool, true, false, ltb, leb, List, [], ◌∷◌, ◌++◌, Some, None, Option, sym, refl, ap, ◌∙◌, subst, arith}
use Rattle.std.proofs.lemmas.Bool.{ltb-true}
use Rattle.std.specs.List.{AllByRecursion}
use Rattle.std.proofs.ByRecursion.{All-append}
use Rattle.span.specs.declared.region.Region.{Region}
use Rattle.sheet.specs.declared.system.System.{System}
use Rattle.enclosure.specs.declared.shape.Judgement.{Judgement}
use Rattle.enclosure.specs.declared.shape.Judgement.TheVariants.{Met, Broken, Unsure}
use Rattle.list.specs.Lists.{newest, has_room, free}
use Rattle.contractor.specs.Laws.{Narrowing, Naming}
use Rattle.runlaw.specs.declared.shape.Cause.{Cause}
use Rattle.runlaw.specs.declared.shape.Cause.TheVariants.{Small, Crowded}
use Rattle.runlaw.specs.declared.shape.Outcome.{Outcome}
use Rattle.runlaw.specs.declared.shape.Outcome.TheVariants.{Small as SMALL, Crowded as CROWDED}
use Rattle.runlaw.specs.Laws.{Judging}
use Rattle.runlaw.specs.Steps.{State, Call, take, settle, Answer, ticket, result, refused, step, after, counts, accepted, Lawful, taking, settling, narrowed, judged, unsure, undecided_end, met}
use Rattle.runlaw.specs.Soundness.{Sound, Always}
use Rattle.runlaw.specs.Endings.{Reached, rounds, Going, Stops, at_take, at_settle, Finished}

after_append : (cs ds : List Call) (s : State) → after (cs ++ ds) s ≡ after ds (after cs s)
after_append [] ds s = refl
after_append (c ∷ cs) ds s = after_append cs ds (step c s).0

accepted_append : (cs ds : List Call) (s : State) → accepted (cs ++ ds) s ≡ accepted cs s + accepted ds (after cs s)
accepted_append [] ds s = omega arith
accepted_append (c ∷ cs) ds s = let e = accepted_append cs ds (step c s).0 in omega arith

-- ---- what the count and the limit are after a call
record Counts (s : State) (r : State × Answer) : Type 0 where
  count : r.0.settled ≡ s.settled + counts r.1
  limit : r.0.limit ≡ s.limit

taking_counts : (s : State) (h o : Option Region) (b : Bool) → Counts s (taking s h o b)
taking_counts s (Some h) o b = record { count = omega arith; limit = refl }
taking_counts s None None b = record { count = omega arith; limit = refl }
taking_counts s None (Some h) false = record { count = omega arith; limit = refl }
taking_counts s None (Some h) true = record { count = omega arith; limit = refl }

undecided_counts : (s : State) (b c : Region) (q : Cause) (o : Outcome) (room : Bool) → Counts s (undecided_end s b c q o room)
undecided_counts s b c q o true = record { count = refl; limit = refl }
undecided_counts s b c q o false = record { count = omega arith; limit = refl }

unsure_counts : (s : State) (b c : Region) (o : Option ℕ) (two : Bool) → Counts s (unsure s b c o two)
unsure_counts s b c None two = undecided_counts s b c Small SMALL (has_room s.undecided_places s.undecided)
unsure_counts s b c (Some j) true = record { count = refl; limit = refl }
unsure_counts s b c (Some j) false = undecided_counts s b c Crowded CROWDED (has_room s.undecided_places s.undecided)

met_counts : (s : State) (b c : Region) (room : Bool) → Counts s (met s b c room)
met_counts s b c true = record { count = refl; limit = refl }
met_counts s b c false = record { count = omega arith; limit = refl }

judged_counts : (s : State) (r : Naming) (b c : Region) (q : Judgement) → Counts s (judged s r b c q)
judged_counts s r b c Met = met_counts s b c (has_room s.feasible_places s.feasible)
judged_counts s r b c Broken = record { count = refl; limit = refl }
judged_counts s r b c Unsure = unsure_counts s b c (r c s.tolerance) (leb 2 (free s.pending_places s.pending))

narrowed_counts : (s : State) (r : Naming) (j : Judging) (b : Region) (o : Option Region) → Counts s (narrowed s r j b o)
narrowed_counts s r j b None = record { count = refl; limit = refl }
narrowed_counts s r j b (Some c) = judged_counts s r b c (j s.system c)

settling_counts : (s : State) (f : Narrowing) (r : Naming) (j : Judging) (h : Option Region) → Counts s (settling s f r j h)
settling_counts s f r j None = record { count = omega arith; limit = refl }
settling_counts s f r j (Some b) = narrowed_counts s r j b (f s.system b)

-- a box is taken only below the limit
taking_below : (s : State) (h o : Option Region) (b : Bool) → ticket ≡ (taking s h o b).1 → ltb s.settled s.limit ≡ b → s.settled < s.limit
taking_below s (Some h) o b e f = let z : ◌≡◌ {A = ℕ} 0 1 = cc in absurd (omega arith)
taking_below s None None b e f = let z : ◌≡◌ {A = ℕ} 0 1 = cc in absurd (omega arith)
taking_below s None (Some h) false e f = let z : ◌≡◌ {A = ℕ} 0 1 = cc in absurd (omega arith)
taking_below s None (Some h) true e f = ltb-true s.settled s.limit f

module _ (f : Narrowing) (r : Naming) (j : Judging) where
  -- a box taken and settled: there is less below the limit
  pub falls : (t u v : State) {o : Outcome} {k : ℕ} → ticket ≡ (step take t).1 → u ≡ (step take t).0 → result o k ≡ (step (settle f r j) u).1 → v ≡ (step (settle f r j) u).0 → v.limit - v.settled < t.limit - t.settled
  falls t u v a b c d =
      let below = taking_below t t.hand (newest t.pending) (ltb t.settled t.limit) a refl in
      let p = taking_counts t t.hand (newest t.pending) (ltb t.settled t.limit) in
      let q = settling_counts u f r j u.hand in
      let us : u.settled ≡ t.settled = ap (λ (z : State). z.settled) b ∙ p.count ∙ rw (← a) (omega arith) in
      let ul : u.limit ≡ t.limit = ap (λ (z : State). z.limit) b ∙ p.limit in
      let vs : v.settled ≡ u.settled + 1 = ap (λ (z : State). z.settled) d ∙ q.count ∙ rw (← c) in
      let vl : v.limit ≡ u.limit = ap (λ (z : State). z.limit) d ∙ q.limit in
      omega arith

  -- one round more, at the end
  rounds_more : (k : ℕ) → rounds f r j (suc k) ≡ rounds f r j k ++ take ∷ settle f r j ∷ []
  rounds_more zero = refl
  rounds_more (suc k) = ap (λ (cs : List Call). take ∷ settle f r j ∷ cs) (rounds_more k)

  pub going_first : (s : State) → Going f r j s s
  going_first s = record { made = 0; all = refl; leads = refl }

  pub going_more : (s t u v : State) {o : Outcome} {k : ℕ} → Going f r j s t → ticket ≡ (step take t).1 → u ≡ (step take t).0 → result o k ≡ (step (settle f r j) u).1 → v ≡ (step (settle f r j) u).0 → Going f r j s v
  going_more s t u v g a b c d =
      let m = g.made in
      let w : State = after (rounds f r j m) s in
      let tw : ticket ≡ (step take w).1 = a ∙ ap (λ (z : State). (step take z).1) g.leads in
      let uw : u ≡ (step take w).0 = b ∙ ap (λ (z : State). (step take z).0) g.leads in
      let cw : result _ _ ≡ (step (settle f r j) (step take w).0).1 = c ∙ ap (λ (z : State). (step (settle f r j) z).1) uw in
      let dw : v ≡ (step (settle f r j) (step take w).0).0 = d ∙ ap (λ (z : State). (step (settle f r j) z).0) uw in
      let one : accepted (take ∷ settle f r j ∷ []) w ≡ 1 = rw (← tw, ← cw) in
      record {
        made = suc m;
        all = ap (λ (cs : List Call). accepted cs s) (rounds_more m) ∙ accepted_append (rounds f r j m) (take ∷ settle f r j ∷ []) s ∙ (let e = g.all in omega arith);
        leads = dw ∙ sym (after_append (rounds f r j m) (take ∷ settle f r j ∷ []) s) ∙ sym (ap (λ (cs : List Call). after cs s) (rounds_more m));
      }

  stopped_taking : (s t u : State) (number : ℕ) → Going f r j s t → refused number ≡ (step take t).1 → u ≡ (step take t).0 → Finished f r j s number u
  stopped_taking s t u number g a b = record { last = t; going = g; stops = at_take b a }

  stopped_settling : (s t u v : State) (number : ℕ) → Going f r j s t → ticket ≡ (step take t).1 → u ≡ (step take t).0 → refused number ≡ (step (settle f r j) u).1 → v ≡ (step (settle f r j) u).0 → Finished f r j s number v
  stopped_settling s t u v number g a b c d = record { last = t; going = g; stops = at_settle a (d ∙ ap (λ (z : State). (step (settle f r j) z).0) b) (c ∙ ap (λ (z : State). (step (settle f r j) z).1) b) }

  -- ---- the calls were lawful
  rounds_lawful : Lawful (settle f r j) → (k : ℕ) → AllByRecursion Lawful (rounds f r j k)
  rounds_lawful l zero = tt
  rounds_lawful l (suc k) = (tt, (l, rounds_lawful l k))

  more : (s t u : State) (cs : List Call) → AllByRecursion Lawful cs → Going f r j s t → Lawful (settle f r j) → u ≡ after cs t → Reached s u
  more s t u cs h g l e = record {
    calls = rounds f r j g.made ++ cs;
    lawful = All-append Lawful (rounds f r j g.made) cs (rounds_lawful l g.made) h;
    leads = e ∙ ap (after cs) g.leads ∙ sym (after_append (rounds f r j g.made) cs s);
  }

  stops_reach : (s t u : State) (number : ℕ) → Going f r j s t → Lawful (settle f r j) → Stops f r j t number u → Reached s u
  stops_reach s t u number g l (at_take a b) = more s t u (take ∷ []) (tt, tt) g l a
  stops_reach s t u number g l (at_settle a b c) = more s t u (take ∷ settle f r j ∷ []) (tt, (l, tt)) g l b

  reach : (s t : State) (number : ℕ) → Lawful (settle f r j) → Finished f r j s number t → Reached s t
  reach s t number l h = stops_reach s h.last t number h.going l h.stops

  -- so the law holds of what a run to the end leaves
  finished_sound : (s t : State) (number : ℕ) → Lawful (settle f r j) → Finished f r j s number t → (y : System) (b : Region) → Always y b s → Sound y b t t.settled
  finished_sound s t number l h y b a =
      let w = reach s t number l h in
      let k : Sound y b t (accepted w.calls s) = subst (λ (z : State). Sound y b z (accepted w.calls s)) (sym w.leads) (a w.calls w.lawful) in
      subst (λ (n : ℕ). Sound y b t n) (sym k.counted) k

  -- the run to the end that stops with this number, and the law of what it leaves
  pub record Ends (s : State) (number : ℕ) (t : State) : Type 0 where
    pub ends : Finished f r j s number t
    pub sound : (y : System) (b : Region) → Always y b s → Sound y b t t.settled

  pub ends_taking : (s t u : State) {number : ℕ} → Lawful (settle f r j) → Going f r j s t → refused number ≡ (step take t).1 → u ≡ (step take t).0 → Ends s number u
  ends_taking s t u {number} l g a b = let e = stopped_taking s t u number g a b in record { ends = e; sound = finished_sound s u number l e }

  pub ends_settling : (s t u v : State) {number : ℕ} → Lawful (settle f r j) → Going f r j s t → ticket ≡ (step take t).1 → u ≡ (step take t).0 → refused number ≡ (step (settle f r j) u).1 → v ≡ (step (settle f r j) u).0 → Ends s number v
  ends_settling s t u v {number} l g a b c d = let e = stopped_settling s t u v number g a b c d in record { ends = e; sound = finished_sound s v number l e }
