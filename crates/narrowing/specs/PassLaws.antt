-- The row test and the Gauss-Seidel pass are contractors, over every kind of number.
use Rattle.std.specs.Prelude.{◌≡◌, ℕ, zero, suc, ◌+◌, ◌<◌, ◌≤◌, Bool, true, false, cond, List, [], ◌∷◌, length, ℤ, ◌≤ℤ◌, IfSome, Some, None, Option, MatchOption}
use Rattle.std.proofs.Common.{arith, sym, subst}
use Rattle.std.proofs.Math.Decide.{ℕ_discrete}
use Rattle.std.specs.Int.Signed.{≤ℤ_refl}
use Rattle.numbers.specs.Numbers.{Numbers}
use Rattle.numbers.specs.Values as V
use Rattle.numbers.specs.Rows.{Term}
use Rattle.numbers.proofs.Laws as L
use Rattle.numbers.proofs.Ends as S
use Rattle.span.specs.declared.shape.Span.{Span}
use Rattle.span.specs.Reached.{Reach}
use Rattle.span.specs.declared.shape.Reach.TheVariants.{Open, Closed}
use Rattle.span.specs.Making.{at_most?}
use Rattle.arithmetic.specs.Reaches.{difference, within}
use Rattle.span.specs.Holding.{Held, Inside}
use Rattle.span.specs.Holding as H
use Rattle.arithmetic.specs.Inclusion.{reach_holds, difference_holds, quotient_holds, within_holds, within_inside}
use Rattle.sheet.specs.declared.shape.Bounds.{Bounds}
use Rattle.sheet.specs.declared.shape.Bounds.TheVariants.{AtLeast, AtMost, Between}
use Rattle.span.specs.declared.region.Region.{Region}
use Rattle.enclosure.specs.declared.shape.Judgement.{Judgement}
use Rattle.enclosure.specs.declared.shape.Judgement.TheVariants.{Met, Broken, Unsure}
use Rattle.span.specs.Regions.{at, with_span, In, Narrower}
use Rattle.span.proofs.Writing.{at_same, at_other, same_n}
use Rattle.enclosure.specs.Rows.{Line, lines, value, Meets, MeetsAll}
use Rattle.enclosure.specs.Judging.{judged_row}
use Rattle.enclosure.specs.Plain.{plain_row}
use Rattle.enclosure.specs.Sound.{Short, AllShort, lines_short, Tells, row_tells, plain_row_holds}
use Rattle.contractor.specs.Laws.{ContractorLaws}
use Rattle.narrowing.specs.Tests.{unless_broken, tested, row_test}
use Rattle.narrowing.specs.Passes.{has, lowered, lower, occurs, holding, others, spanning, target, solved, replaced, aimed, narrowed_at, narrowed_from, passed, pass}
use Rattle.contractor.specs.Steps.{Narrows, within_refl, narrows_stay, narrows_more, narrows_then}
use Rattle.narrowing.specs.Algebra.{row_split}

-- ---- A and R are no longer than the row
lowered_short : (n j : ℕ) (es : List ℕ) → length es ≤ n → length (lowered j es) ≤ n
unfolding lowered
lowered_short n j [] l = l
lowered_short n zero (zero ∷ es) l = l
lowered_short n zero (suc e ∷ es) l = l
lowered_short zero (suc j) (e ∷ es) l = absurd (omega arith)
lowered_short (suc n) (suc j) (e ∷ es) l = let h = lowered_short n j es (omega arith) in omega arith

holding_short : (n j : ℕ) (ts : List Term) → Short n ts → Short n (holding j ts)
unfolding holding
holding_short n j [] s = tt
holding_short n j (t ∷ ts) s = by (has j t.exponents) (holding_short n j ts s.1)
  where
    by : (h : Bool) → Short n (holding j ts) → Short n (cond h (lower j t ∷ holding j ts) (holding j ts))
    by true r = (lowered_short n j t.exponents s.0, r)
    by false r = r

others_short : (n j : ℕ) (ts : List Term) → Short n ts → Short n (others j ts)
unfolding others
others_short n j [] s = tt
others_short n j (t ∷ ts) s = by (has j t.exponents) (others_short n j ts s.1)
  where
    by : (h : Bool) → Short n (others j ts) → Short n (cond h (others j ts) (t ∷ others j ts))
    by true r = r
    by false r = (s.0, r)

-- ---- a box with a new span
pub with_inside : (b : Region) (j : ℕ) (s : Span) → j < b.n → Inside s (at b j) → Narrower (with_span b j s) b
with_inside b j s l h = record { same = same_n b j s; inside = λ i k. by i k (ℕ_discrete i j) }
  where
    by : (i : ℕ) → i < b.n → Dec (i ≡ j) → Inside (at (with_span b j s) i) (at b i)
    by i k (yes e) = subst (λ (m : ℕ). Inside (at (with_span b j s) m) (at b m)) (sym e) (subst (λ (r : Span). Inside r (at b j)) (sym (at_same b j s l)) h)
    by i k (no d) = subst (λ (r : Span). Inside r (at b i)) (sym (at_other b i j s d)) (≤ℤ_refl (at b i).lo, ≤ℤ_refl (at b i).hi)

pub with_in : (N : Numbers) (x : ℕ → N.carrier) (b : Region) (j : ℕ) (s : Span) → j < b.n → In N x b → H.Within N s (x j) → In N x (with_span b j s)
with_in N x b j s l h k i m = by (ℕ_discrete i j) (rw (same_n b j s) at m)
  where
    by : Dec (i ≡ j) → i < b.n → H.Within N (at (with_span b j s) i) (x i)
    by (yes e) o = subst (λ (m : ℕ). H.Within N (at (with_span b j s) m) (x m)) (sym e) (subst (λ (r : Span). H.Within N r (x j)) (sym (at_same b j s l)) k)
    by (no d) o = subst (λ (r : Span). H.Within N r (x i)) (sym (at_other b i j s d)) (h i o)

-- ---- the target
module _ (N : Numbers) where
  open N use {carrier, le as ◌≼◌, add as ◌⊕◌, mul as ◌⊗◌, neg, le_trans, mul_comm}

  infixl 60 ◌⊕◌
  infixl 70 ◌⊗◌
  spanning_holds : (a b : ℤ) (v : carrier) → ◌≼◌ (V.int N a) (V.counted N v) → ◌≼◌ (V.counted N v) (V.int N b) → MatchOption (spanning a b (at_most? a b)) ⊥ (λ t. Held N t v)
  spanning_holds a b v h k = by (at_most? a b)
    where
      by : (d : Dec (a ≤ℤ b)) → MatchOption (spanning a b d) ⊥ (λ t. Held N t v)
      by (yes o) = reach_holds N (record { from = a; to = b }) v (record { low = h; high = k })
      by (no n) = n (L.int_back N (le_trans h k))

  -- the row's value lies in the target
  target_holds : (k : Bounds) (r : Reach) (v : carrier) → Held N r v → Meets N k v → MatchOption (target k r) ⊥ (λ t. Held N t v)
  target_holds (Between t) r v h m = record { low = (S.count_low N t.lo v).0 m.0; high = (S.count_high N t.hi v).0 m.1 }
  target_holds (AtLeast lo) Open v h m = tt
  target_holds (AtLeast lo) (Closed s) v h m = spanning_holds lo s.hi v ((S.count_low N lo v).0 m) h.high
  target_holds (AtMost hi) Open v h m = tt
  target_holds (AtMost hi) (Closed s) v h m = spanning_holds s.lo hi v h.low ((S.count_high N hi v).0 m)

  -- ---- (T − R) / A holds the coordinate
  solved_holds : (x : ℕ → carrier) (b : Region) (ts : List Term) (j : ℕ) (t : Reach) → In N x b → Short b.n ts → Held N t (value N x ts) → Held N (solved b ts j t) (x j)
  solved_holds x b ts j t i s h =
      let a = value N x (holding j ts) in
      let r = value N x (others j ts) in
      let v = value N x ts in
      quotient_holds N (difference t (plain_row b (others j ts))) (plain_row b (holding j ts)) a (x j) (v ⊕ neg r)
      (difference_holds N t (plain_row b (others j ts)) v r h (plain_row_holds N x b i (others j ts) (others_short b.n j ts s)))
      (plain_row_holds N x b i (holding j ts) (holding_short b.n j ts s))
      (L.same_sym N (L.same_trans N (L.add_same N (row_split N x j ts) (L.same_refl N (neg r))) (L.add_back N (a ⊗ x j) r)))

-- ---- one variable of one row
-- the row of l is met
abbrev pub MetLine : Line → (N : Numbers) → (ℕ → N.carrier) → Type 0
MetLine l N x = Meets N l.bounds (value N x l.terms)

aimed_within : (b : Region) (ts : List Term) (j : ℕ) (o : Option Reach) → j < b.n → IfSome (aimed b ts j o) (λ c. Narrower c b)
aimed_within b ts j None l = tt
aimed_within b ts j (Some t) l = go (within (at b j) (solved b ts j t)) (within_inside (at b j) (solved b ts j t))
  where
    go : (o : Option Span) → IfSome o (λ r. Inside r (at b j)) → IfSome (replaced b j o) (λ c. Narrower c b)
    go None h = tt
    go (Some s) h = with_inside b j s l h

aimed_keeps : (N : Numbers) (x : ℕ → N.carrier) (b : Region) (ts : List Term) (j : ℕ) (o : Option Reach) → j < b.n → In N x b → Short b.n ts → MatchOption o ⊥ (λ t. Held N t (value N x ts)) → MatchOption (aimed b ts j o) ⊥ (λ c. In N x c)
aimed_keeps N x b ts j None l i s h = h
aimed_keeps N x b ts j (Some t) l i s h = go (within (at b j) (solved b ts j t)) (within_holds N (at b j) (solved b ts j t) (x j) (i j l) (solved_holds N x b ts j t i s h))
  where
    go : (o : Option Span) → MatchOption o ⊥ (λ r. H.Within N r (x j)) → MatchOption (replaced b j o) ⊥ (λ c. In N x c)
    go None c = c
    go (Some r) c = with_in N x b j r l i c

narrowed_at_narrows : (n : ℕ) (l : Line) (j : ℕ) → j < n → Short n l.terms → Narrows n (MetLine l) (narrowed_at l j)
unfolding narrowed_at
narrowed_at_narrows n l j h s = record {
  within = λ b e. within_of b (occurs j l.terms) (target l.bounds (plain_row b l.terms)) (let f = e in omega arith);
  keeps = λ N b e x i m. keeps_of N b x (occurs j l.terms) (target l.bounds (plain_row b l.terms)) (let f = e in omega arith) i (rw e s)
      (target_holds N l.bounds (plain_row b l.terms) (value N x l.terms) (plain_row_holds N x b i l.terms (rw e s)) m);
}
  where
    within_of : (b : Region) (t : Bool) (o : Option Reach) → j < b.n → IfSome (cond t (aimed b l.terms j o) (Some b)) (λ c. Narrower c b)
    within_of b true o k = aimed_within b l.terms j o k
    within_of b false o k = within_refl b

    keeps_of : (N : Numbers) (b : Region) (x : ℕ → N.carrier) (t : Bool) (o : Option Reach) → j < b.n → In N x b → Short b.n l.terms → MatchOption o ⊥ (λ r. Held N r (value N x l.terms)) → MatchOption (cond t (aimed b l.terms j o) (Some b)) ⊥ (λ c. In N x c)
    keeps_of N b x true o k i s' c = aimed_keeps N x b l.terms j o k i s' c
    keeps_of N b x false o k i s' c = i

-- ---- the pass
narrowed_from_narrows : (n : ℕ) (l : Line) (k j : ℕ) → j + k ≤ n → Short n l.terms → Narrows n (MetLine l) (narrowed_from l k j)
unfolding narrowed_from
narrowed_from_narrows n l zero j h s = narrows_stay n (MetLine l)
narrowed_from_narrows n l (suc k) j h s = narrows_then (narrowed_at_narrows n l j (omega arith) s) (narrowed_from_narrows n l k (suc j) (omega arith) s)

-- every row of ls is met
abbrev pub MetLines : List Line → (N : Numbers) → (ℕ → N.carrier) → Type 0
MetLines ls N x = MeetsAll N x ls

pub passed_narrows : (n : ℕ) (ls : List Line) → AllShort n ls → Narrows n (MetLines ls) (passed n ls)
unfolding passed
passed_narrows n [] s = narrows_stay n (MetLines [])
passed_narrows n (l ∷ ls) s = narrows_then
    (narrows_more (MetLines (l ∷ ls)) (λ N x m. m.0) (narrowed_from_narrows n l n 0 (omega arith) s.0))
    (narrows_more (MetLines (l ∷ ls)) (λ N x m. m.1) (passed_narrows n ls s.1))

pub pass_laws : ContractorLaws pass
pass_laws = record {
  within = λ s b e. (passed_narrows s.n (lines s) (lines_short s.n s.rows.now s.terms.now)).within b e;
  keeps = λ N s b e x i m. (passed_narrows s.n (lines s) (lines_short s.n s.rows.now s.terms.now)).keeps N b e x i m;
}

-- ---- the row test
pub tested_narrows : (n : ℕ) (ls : List Line) → AllShort n ls → Narrows n (MetLines ls) (tested ls)
unfolding tested
tested_narrows n [] s = narrows_stay n (MetLines [])
tested_narrows n (l ∷ ls) s = record {
  within = λ b e. within_of b (judged_row l.bounds (plain_row b l.terms)) (tested ls b) ((tested_narrows n ls s.1).within b e);
  keeps = λ N b e x i m. keeps_of N x (judged_row l.bounds (plain_row b l.terms)) (tested ls b) m.0
      (row_tells N l.bounds (plain_row b l.terms) (value N x l.terms) (plain_row_holds N x b i l.terms (rw e s.0))) ((tested_narrows n ls s.1).keeps N b e x i m.1);
}
  where
    within_of : (b : Region) (j : Judgement) (o : Option Region) → IfSome o (λ c. Narrower c b) → IfSome (unless_broken j o) (λ c. Narrower c b)
    within_of b Met o h = h
    within_of b Unsure o h = h
    within_of b Broken o h = tt

    keeps_of : (N : Numbers) (x : ℕ → N.carrier) (j : Judgement) (o : Option Region) → Meets N l.bounds (value N x l.terms) → Tells j (Meets N l.bounds (value N x l.terms)) → MatchOption o ⊥ (λ c. In N x c) → MatchOption (unless_broken j o) ⊥ (λ c. In N x c)
    keeps_of N x Met o m t h = h
    keeps_of N x Unsure o m t h = h
    keeps_of N x Broken o m t h = t m

pub row_test_laws : ContractorLaws row_test
row_test_laws = record {
  within = λ s b e. (tested_narrows s.n (lines s) (lines_short s.n s.rows.now s.terms.now)).within b e;
  keeps = λ N s b e x i m. (tested_narrows s.n (lines s) (lines_short s.n s.rows.now s.terms.now)).keeps N b e x i m;
}
