-- The run's main theorem: what every call keeps, and what follows after any list of calls.
use Rattle.std.proofs.Common.{◌≡◌, ℕ, ◌+◌, ◌-◌, ◌*◌, ◌<◌, ◌≤◌, Bool, true, false, ltb, leb, ◌⊎◌, List, [], ◌∷◌, ◌++◌, length, IfSome, Some, None, Option, sym, refl, ◌∙◌, subst, inl, inr, arith, length-append, lt-ltb, MatchOption}
use Rattle.std.proofs.lemmas.Bool.{leb-true}
use Rattle.std.specs.List.{AllByRecursion}
use Rattle.std.proofs.ByRecursion.{All-append, All-push}
use Rattle.span.specs.declared.region.Region.{Region}
use Rattle.sheet.specs.declared.system.System.{System}
use Rattle.runlaw.specs.declared.shape.Filed.{Filed}
use Rattle.enclosure.specs.declared.shape.Judgement.{Judgement}
use Rattle.enclosure.specs.declared.shape.Judgement.TheVariants.{Met, Broken, Unsure}
use Rattle.runlaw.specs.declared.shape.Cause.{Cause}
use Rattle.runlaw.specs.declared.shape.Cause.TheVariants.{Small, Crowded}
use Rattle.runlaw.specs.declared.shape.Outcome.{Outcome}
use Rattle.runlaw.specs.declared.shape.Outcome.TheVariants.{Small as SMALL, Crowded as CROWDED}
use Rattle.runlaw.specs.declared.shape.Verdict.TheVariants.{None as NONE}
use Rattle.span.specs.Halves.{lower, upper}
use Rattle.span.specs.Regions.{at, Narrower, lower_half, upper_half}
use Rattle.runlaw.specs.Sizes.{size}
use Rattle.enclosure.specs.Points.{Point, Lies}
use Rattle.enclosure.specs.Sound.{Tells}
use Rattle.contractor.specs.Laws.{Narrowing, Naming, RuleLaws, Wider, NoneWider}
use Rattle.runlaw.specs.Laws.{Judging, NarrowingLaws, JudgingLaws, Meets}
use Rattle.runlaw.specs.Steps.{State, Call, take, put_back, settle, verdict, Answer, moved, taking, again, putting, filed_as, undecided_end, unsure, discarded, met, judged, narrowed, settling, verdict_by, verdict_of, step, after, counts, accepted, Lawful, opened}
use Rattle.list.specs.Lists.{newest, older, added, has_room, free}
use Rattle.runlaw.specs.Soundness.{Any, Covers, pending, held, feasible, undecided, Empty, Sound, Always}
use Rattle.runlaw.proofs.Sizes.{lies_halves, half_n, size_halves, size_within, size_some}
use Rattle.runlaw.proofs.Lists.{ends_in_newest, any_left, any_right, any_cases, all_left, all_right, weight, weights, weights_append}

abbrev hands : Option Region → ℕ
hands None = 0
hands (Some b) = 1

abbrev held_weight : Option Region → ℕ
held_weight None = 0
held_weight (Some b) = weight b

-- the box has the system's number of variables
abbrev Fit : State → Region → Type 0
Fit s b = b.n ≡ s.system.n

abbrev Right : State → Region → Type 0
Right s c = (x : Point) → Lies x c → Meets x s.system

-- what every call keeps; y the system and b₀ the box of the opening
record Good (y : System) (b₀ : Region) (s : State) : Type 0 where
  same : s.system ≡ y
  tolerant : 1 ≤ s.tolerance
  fit : AllByRecursion (Fit s) s.pending
  held_fit : IfSome s.hand (Fit s)
  room : length s.pending + hands s.hand ≤ s.pending_places
  covers : (x : Point) → Lies x b₀ → Meets x s.system → Covers s x
  right : AllByRecursion (Right s) s.feasible
  weighed : s.settled + (weights s.pending + held_weight s.hand) ≤ 2 * size b₀ - 1

record Next (y : System) (b₀ : Region) (s : State) (r : State × Answer) : Type 0 where
  good : Good y b₀ r.0
  count : r.0.settled ≡ s.settled + counts r.1

cover_map : (s t : State) (x : Point) → (Any (λ b. Lies x b) s.pending → Covers t x) → (MatchOption s.hand ⊥ (λ b. Lies x b) → Covers t x) → (Any (λ b. Lies x b) s.feasible → Covers t x) → (Any (λ q. Lies x q.region) s.undecided → Covers t x) → Covers s x → Covers t x
cover_map s t x p h f u (pending a) = p a
cover_map s t x p h f u (held a) = h a
cover_map s t x p h f u (feasible a) = f a
cover_map s t x p h f u (undecided a) = u a

-- a settle that is accepted: the held box b is spent
done : (y : System) (b₀ : Region) (s : State) (b : Region) (p f : List Region) (u : List Filed)
    → Good y b₀ (moved s s.settled (Some b) s.pending s.feasible s.undecided)
    → AllByRecursion (Fit s) p → length p ≤ s.pending_places → AllByRecursion (Right s) f
    → ((x : Point) → Any (λ c. Lies x c) s.pending → Any (λ c. Lies x c) p)
    → ((x : Point) → Any (λ c. Lies x c) s.feasible → Any (λ c. Lies x c) f)
    → ((x : Point) → Any (λ q. Lies x q.region) s.undecided → Any (λ q. Lies x q.region) u)
    → ((x : Point) → Lies x b → Meets x s.system → Covers (moved s (s.settled + 1) None p f u) x)
    → weights p + 1 ≤ weights s.pending + weight b
    → Good y b₀ (moved s (s.settled + 1) None p f u)
done y b₀ s b p f u g fits rooms rights ps fs us covers lighter = record {
  same = g.same;
  tolerant = g.tolerant;
  fit = fits;
  held_fit = tt;
  room = omega arith;
  covers = λ x i m. cover_map (moved s s.settled (Some b) s.pending s.feasible s.undecided) (moved s (s.settled + 1) None p f u) x (λ a. pending (ps x a)) (λ a. covers x a m) (λ a. feasible (fs x a)) (λ a. undecided (us x a)) (g.covers x i m);
  right = rights;
  weighed = let w = g.weighed in omega arith;
}

added_there : {A : Type 0} (k : ℕ) (xs : List A) (x : A) → length xs < k → added k xs x ≡ xs ++ x ∷ []
added_there k xs x h = rw (lt-ltb (length xs) k h)

-- the held box goes back to the end of the pending list
back_there : (y : System) (b₀ : Region) (s : State) (b : Region) → Good y b₀ (moved s s.settled (Some b) s.pending s.feasible s.undecided) → Good y b₀ (moved s s.settled None (s.pending ++ b ∷ []) s.feasible s.undecided)
back_there y b₀ s b g = record {
  same = g.same;
  tolerant = g.tolerant;
  fit = All-push (Fit s) s.pending b g.fit g.held_fit;
  held_fit = tt;
  room = let r = g.room in omega (arith, length-append s.pending (b ∷ []));
  covers = λ x i m. cover_map (moved s s.settled (Some b) s.pending s.feasible s.undecided) (moved s s.settled None (s.pending ++ b ∷ []) s.feasible s.undecided) x (λ a. pending (any_left (λ c. Lies x c) s.pending (b ∷ []) a)) (λ a. pending (any_right (λ c. Lies x c) s.pending (b ∷ []) (inl a))) feasible undecided (g.covers x i m);
  right = g.right;
  weighed = let w = g.weighed in omega (arith, weights_append s.pending (b ∷ []));
}

back : (y : System) (b₀ : Region) (s : State) (b : Region) → Good y b₀ (moved s s.settled (Some b) s.pending s.feasible s.undecided) → Good y b₀ (again s b)
back y b₀ s b g =
    let e : added s.pending_places s.pending b ≡ s.pending ++ b ∷ [] = added_there s.pending_places s.pending b (let r = g.room in omega arith) in
    let P : List Region → Type 0 = λ p. Good y b₀ (moved s s.settled None p s.feasible s.undecided) in
    subst P (sym e) (back_there y b₀ s b g)

-- ---- settle, by what happens; b is the box as taken, c what it was narrowed to
abbrev Held : System → Region → State → Region → Type 0
Held y b₀ s b = Good y b₀ (moved s s.settled (Some b) s.pending s.feasible s.undecided)

abbrev Keeps : State → Region → Region → Type 0
Keeps s b c = (x : Point) → Lies x b → Meets x s.system → Lies x c

back_next : (y : System) (b₀ : Region) (s : State) (b : Region) (k : ℕ) → Held y b₀ s b → Next y b₀ s (again s b, Answer.refused k)
back_next y b₀ s b k g = record { good = back y b₀ s b g; count = omega arith }

discarded_next : (y : System) (b₀ : Region) (s : State) (b : Region) → Held y b₀ s b → ((x : Point) → Lies x b → Meets x s.system → ⊥) → Next y b₀ s (discarded s)
discarded_next y b₀ s b g never = record {
  good = done y b₀ s b s.pending s.feasible s.undecided g g.fit (let r = g.room in omega arith) g.right (λ x a. a) (λ x a. a) (λ x a. a) (λ x i m. absurd (never x i m)) (let z = size_some b in omega arith);
  count = refl;
}

met_next : (y : System) (b₀ : Region) (s : State) (b c : Region) (room : Bool) → Held y b₀ s b → Keeps s b c → Right s c → Next y b₀ s (met s b c room)
met_next y b₀ s b c true g k r = record {
  good = done y b₀ s b s.pending (s.feasible ++ c ∷ []) s.undecided g g.fit (let r = g.room in omega arith) (All-push (Right s) s.feasible c g.right r) (λ x a. a) (λ x a. any_left (λ d. Lies x d) s.feasible (c ∷ []) a) (λ x a. a) (λ x i m. feasible (any_right (λ d. Lies x d) s.feasible (c ∷ []) (inl (k x i m)))) (let z = size_some b in omega arith);
  count = refl;
}
met_next y b₀ s b c false g k r = back_next y b₀ s b 25 g

-- c goes to the undecided list, for either cause
filed_good : (y : System) (b₀ : Region) (s : State) (b : Region) (q : Filed) → Held y b₀ s b → Keeps s b q.region → Good y b₀ (moved s (s.settled + 1) None s.pending s.feasible (s.undecided ++ q ∷ []))
filed_good y b₀ s b q g k = done y b₀ s b s.pending s.feasible (s.undecided ++ q ∷ []) g g.fit (let r = g.room in omega arith) g.right (λ x a. a) (λ x a. a) (λ x a. any_left (λ d. Lies x d.region) s.undecided (q ∷ []) a) (λ x i m. undecided (any_right (λ d. Lies x d.region) s.undecided (q ∷ []) (inl (k x i m)))) (let z = size_some b in omega arith)

split_good : (y : System) (b₀ : Region) (s : State) (b c : Region) (j : ℕ) → Held y b₀ s b → Narrower c b → Keeps s b c → Wider s.tolerance c j → length s.pending + 2 ≤ s.pending_places → Good y b₀ (moved s (s.settled + 1) None (s.pending ++ upper_half j c ∷ lower_half j c ∷ []) s.feasible s.undecided)
split_good y b₀ s b c j g w k wide two =
    let fits : c.n ≡ s.system.n = w.same ∙ g.held_fit in
    done y b₀ s b (s.pending ++ halves) s.feasible s.undecided g
    (All-append (Fit s) s.pending halves g.fit (half_n j c (upper (at c j)) wide.0 ∙ fits, (half_n j c (lower (at c j)) wide.0 ∙ fits, tt)))
    (omega (arith, length-append s.pending halves))
    g.right
    (λ x a. any_left (λ d. Lies x d) s.pending halves a) (λ x a. a) (λ x a. a)
    (λ x i m. pending (any_right (λ d. Lies x d) s.pending halves (either x (lies_halves x j c wide.0 (k x i m)))))
    (let h = size_halves s.tolerance j c g.tolerant wide.0 wide.1 in let z = size_within c b w in let l = size_some (lower_half j c) in let v = size_some (upper_half j c) in omega (arith, weights_append s.pending halves))
  where
    halves : List Region
    halves = upper_half j c ∷ lower_half j c ∷ []

    either : (x : Point) → Lies x (lower_half j c) ⊎ Lies x (upper_half j c) → Lies x (upper_half j c) ⊎ (Lies x (lower_half j c) ⊎ ⊥)
    either x (inl a) = inr (inl a)
    either x (inr a) = inl a

undecided_next : (y : System) (b₀ : Region) (s : State) (b c : Region) (q : Cause) (o : Outcome) → Held y b₀ s b → Keeps s b c → (room : Bool) → Next y b₀ s (undecided_end s b c q o room)
undecided_next y b₀ s b c q o g k true = record { good = filed_good y b₀ s b (filed_as c q) g k; count = refl }
undecided_next y b₀ s b c q o g k false = back_next y b₀ s b 26 g

unsure_next : (y : System) (b₀ : Region) (s : State) (b c : Region) → Held y b₀ s b → Narrower c b → Keeps s b c → (o : Option ℕ) → IfSome o (λ j. Wider s.tolerance c j) → (two : Bool) → leb 2 (free s.pending_places s.pending) ≡ two → Next y b₀ s (unsure s b c o two)
unsure_next y b₀ s b c g w k None l two e = undecided_next y b₀ s b c Small SMALL g k (has_room s.undecided_places s.undecided)
unsure_next y b₀ s b c g w k (Some j) l true e = record { good = split_good y b₀ s b c j g w k l (omega (arith, leb-true 2 (free s.pending_places s.pending) e)); count = refl }
unsure_next y b₀ s b c g w k (Some j) l false e = undecided_next y b₀ s b c Crowded CROWDED g k (has_room s.undecided_places s.undecided)

named : (P : Type 0) (Q : ℕ → Type 0) (o : Option ℕ) → MatchOption o P Q → IfSome o Q
named P Q None h = tt
named P Q (Some j) h = h

judged_next : (y : System) (b₀ : Region) (s : State) (r : Naming) (b c : Region) → RuleLaws r → Held y b₀ s b → Narrower c b → Keeps s b c → (q : Judgement) → ((x : Point) → Lies x c → Tells q (Meets x s.system)) → Next y b₀ s (judged s r b c q)
judged_next y b₀ s r b c lr g w k Met h = met_next y b₀ s b c (has_room s.feasible_places s.feasible) g k h
judged_next y b₀ s r b c lr g w k Broken h = discarded_next y b₀ s b g (λ x i m. h x (k x i m) m)
judged_next y b₀ s r b c lr g w k Unsure h = unsure_next y b₀ s b c g w k (r c s.tolerance) (named (NoneWider s.tolerance c) (λ j. Wider s.tolerance c j) (r c s.tolerance) (lr.names c s.tolerance)) (leb 2 (free s.pending_places s.pending)) refl

narrowed_next : (y : System) (b₀ : Region) (s : State) (r : Naming) (j : Judging) (b : Region) → RuleLaws r → JudgingLaws j → Held y b₀ s b → (o : Option Region) → IfSome o (λ c. Narrower c b) → ((x : Point) → Lies x b → Meets x s.system → MatchOption o ⊥ (λ c. Lies x c)) → Next y b₀ s (narrowed s r j b o)
narrowed_next y b₀ s r j b lr lj g None w k = discarded_next y b₀ s b g k
narrowed_next y b₀ s r j b lr lj g (Some c) w k = judged_next y b₀ s r b c lr g w k (j s.system c) (lj.right s.system c (w.same ∙ g.held_fit))

settling_next : (y : System) (b₀ : Region) (s : State) (f : Narrowing) (r : Naming) (j : Judging) → NarrowingLaws f → RuleLaws r → JudgingLaws j → (h : Option Region) → Good y b₀ s → Good y b₀ (moved s s.settled h s.pending s.feasible s.undecided) → Next y b₀ s (settling s f r j h)
settling_next y b₀ s f r j lf lr lj None g g' = record { good = g; count = omega arith }
settling_next y b₀ s f r j lf lr lj (Some b) g g' = narrowed_next y b₀ s r j b lr lj g' (f s.system b) (lf.within s.system b g'.held_fit) (lf.keeps s.system b g'.held_fit)

-- ---- the other calls
putting_next : (y : System) (b₀ : Region) (s : State) (h : Option Region) → Good y b₀ s → Good y b₀ (moved s s.settled h s.pending s.feasible s.undecided) → Next y b₀ s (putting s h)
putting_next y b₀ s None g g' = record { good = g; count = omega arith }
putting_next y b₀ s (Some b) g g' = record { good = back y b₀ s b g'; count = omega arith }

-- the newest of the pending boxes goes into the empty hand
took : (y : System) (b₀ : Region) (s : State) (b : Region) (p : List Region) → Good y b₀ (moved s s.settled None (p ++ b ∷ []) s.feasible s.undecided) → Good y b₀ (moved s s.settled (Some b) p s.feasible s.undecided)
took y b₀ s b p g = record {
  same = g.same;
  tolerant = g.tolerant;
  fit = all_left (Fit s) p (b ∷ []) g.fit;
  held_fit = (all_right (Fit s) p (b ∷ []) g.fit).0;
  room = let r = g.room in omega (arith, length-append p (b ∷ []));
  covers = λ x i m. cover_map (moved s s.settled None (p ++ b ∷ []) s.feasible s.undecided) (moved s s.settled (Some b) p s.feasible s.undecided) x (λ a. of_pending x (any_cases (λ c. Lies x c) p (b ∷ []) a)) (λ a. absurd a) feasible undecided (g.covers x i m);
  right = g.right;
  weighed = let w = g.weighed in omega (arith, weights_append p (b ∷ []));
}
  where
    of_pending : (x : Point) → Any (λ c. Lies x c) p ⊎ (Lies x b ⊎ ⊥) → Covers (moved s s.settled (Some b) p s.feasible s.undecided) x
    of_pending x (inl a) = pending a
    of_pending x (inr (inl a)) = held a
    of_pending x (inr (inr a)) = absurd a

taking_next : (y : System) (b₀ : Region) (s : State) (h o : Option Region) (below : Bool) → newest s.pending ≡ o → Good y b₀ s → Good y b₀ (moved s s.settled h s.pending s.feasible s.undecided) → Next y b₀ s (taking s h o below)
taking_next y b₀ s (Some b) o below e g g' = record { good = g; count = omega arith }
taking_next y b₀ s None None below e g g' = record { good = g; count = omega arith }
taking_next y b₀ s None (Some b) false e g g' = record { good = g; count = omega arith }
taking_next y b₀ s None (Some b) true e g g' =
    let P : List Region → Type 0 = λ p. Good y b₀ (moved s s.settled None p s.feasible s.undecided) in
    record { good = took y b₀ s b (older s.pending) (subst P (ends_in_newest s.pending b e) g'); count = omega arith }

-- ---- any call, and any list of calls
step_next : (y : System) (b₀ : Region) (s : State) (c : Call) → Lawful c → Good y b₀ s → Next y b₀ s (step c s)
step_next y b₀ s take l g = taking_next y b₀ s s.hand (newest s.pending) (ltb s.settled s.limit) refl g g
step_next y b₀ s put_back l g = putting_next y b₀ s s.hand g g
step_next y b₀ s (settle f r j) l g = settling_next y b₀ s f r j l.0 l.1 l.2 s.hand g g
step_next y b₀ s verdict l g = record { good = g; count = omega arith }

record Then (y : System) (b₀ : Region) (s : State) (cs : List Call) : Type 0 where
  good : Good y b₀ (after cs s)
  count : (after cs s).settled ≡ s.settled + accepted cs s

after_next : (y : System) (b₀ : Region) (s : State) (cs : List Call) → AllByRecursion Lawful cs → Good y b₀ s → Then y b₀ s cs
after_next y b₀ s [] l g = record { good = g; count = omega arith }
after_next y b₀ s (c ∷ cs) l g =
    let n = step_next y b₀ s c l.0 g in
    let t = after_next y b₀ (step c s).0 cs l.1 n.good in
    record { good = t.good; count = let e = n.count in let d = t.count in omega arith }

-- ---- the verdict
none_empty : (f p : List Region) (h : Option Region) (u : List Filed) → verdict_by f p h u ≡ NONE → (p ≡ []) × (h ≡ None) × (f ≡ []) × (u ≡ [])
none_empty (b ∷ bs) p h u e = let z : ◌≡◌ {A = ℕ} 0 1 = cc in absurd (omega arith)
none_empty [] (b ∷ bs) h u e = let z : ◌≡◌ {A = ℕ} 0 1 = cc in absurd (omega arith)
none_empty [] [] (Some b) u e = let z : ◌≡◌ {A = ℕ} 0 1 = cc in absurd (omega arith)
none_empty [] [] None (b ∷ bs) e = let z : ◌≡◌ {A = ℕ} 0 1 = cc in absurd (omega arith)
none_empty [] [] None [] e = (refl, refl, refl, refl)

empty_none : (s : State) → Empty s → verdict_of s ≡ NONE
empty_none s e = rw (e.pending, e.held, e.feasible, e.undecided)

empty_of : (s : State) → verdict_of s ≡ NONE → Empty s
empty_of s e = let h = none_empty s.feasible s.pending s.hand s.undecided e in record { pending = h.0; held = h.1; feasible = h.2; undecided = h.3 }

not_covered : (s : State) (x : Point) → Empty s → Covers s x → ⊥
not_covered s x e (pending a) = subst (λ (l : List Region). Any (λ b. Lies x b) l) e.pending a
not_covered s x e (held a) = subst (λ (l : Option Region). MatchOption l ⊥ (λ b. Lies x b)) e.held a
not_covered s x e (feasible a) = subst (λ (l : List Region). Any (λ b. Lies x b) l) e.feasible a
not_covered s x e (undecided a) = subst (λ (l : List Filed). Any (λ q. Lies x q.region) l) e.undecided a

-- ---- the theorem
sound : (y : System) (b₀ : Region) (s : State) (k : ℕ) → Good y b₀ s → s.settled ≡ k → Sound y b₀ s k
sound y b₀ s k g e =
    let covers : (x : Point) → Lies x b₀ → Meets x y → Covers s x = λ x i m. g.covers x i (subst (λ (z : System). Meets x z) (sym g.same) m) in
    record {
      same = g.same;
      covered = covers;
      met = subst (λ (z : System). AllByRecursion (λ c. (x : Point) → Lies x c → Meets x z) s.feasible) g.same g.right;
      none = empty_of s;
      empty = empty_none s;
      without = λ v x i m. not_covered s x (empty_of s v) (covers x i m);
      counted = e;
      bounded = let w = g.weighed in omega arith;
    }

opened_good : (y : System) (b : Region) (tolerance limit pp fp up : ℕ) → 1 ≤ tolerance → b.n ≡ y.n → 1 ≤ pp → Good y b (opened y b tolerance limit pp fp up)
opened_good y b tolerance limit pp fp up t n p = record {
  same = refl;
  tolerant = t;
  fit = (n, tt);
  held_fit = tt;
  room = omega arith;
  covers = λ x i m. pending (inl i);
  right = tt;
  weighed = omega arith;
}

pub always : (y : System) (b : Region) (tolerance limit pp fp up : ℕ) → 1 ≤ tolerance → b.n ≡ y.n → 1 ≤ pp → Always y b (opened y b tolerance limit pp fp up)
always y b tolerance limit pp fp up t n p cs l =
    let h = after_next y b (opened y b tolerance limit pp fp up) cs l (opened_good y b tolerance limit pp fp up t n p) in
    sound y b (after cs (opened y b tolerance limit pp fp up)) (accepted cs (opened y b tolerance limit pp fp up)) h.good (let e = h.count in omega arith)

-- a state whose parts are those of an opened run
pub same_opened : {s : State} {y : System} {b : Region} {t l pp fp up : ℕ} → s.system ≡ y → s.tolerance ≡ t → s.limit ≡ l → s.settled ≡ 0 → s.hand ≡ None → s.pending ≡ b ∷ [] → s.pending_places ≡ pp → s.feasible ≡ [] → s.feasible_places ≡ fp → s.undecided ≡ [] → s.undecided_places ≡ up → s ≡ opened y b t l pp fp up
same_opened a b c d e f g h i j k = λ x. record { system = a x; tolerance = b x; limit = c x; settled = d x; hand = e x; pending = f x; pending_places = g x; feasible = h x; feasible_places = i x; undecided = j x; undecided_places = k x }

pub always_from : {s : State} {y : System} {b : Region} {t l pp fp up : ℕ} → s ≡ opened y b t l pp fp up → 1 ≤ t → b.n ≡ y.n → 1 ≤ pp → Always y b s
always_from {y = y} {b = b} {t = t} {l = l} {pp = pp} {fp = fp} {up = up} e h n p = subst (λ (z : State). Always y b z) (sym e) (always y b t l pp fp up h n p)
