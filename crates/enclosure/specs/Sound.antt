-- The evaluator is sound in every kind of enclosure, over every kind of number: one text.
use Rattle.std.specs.Prelude.{◌≡◌, ℕ, suc, ◌+◌, ◌<◌, ◌≤◌, List, [], ◌∷◌, map, length, take, drop, ℤ, pos, ◌≤ℤ◌, refl}
use Rattle.std.proofs.Common.{arith, ap, ap₂, ◌∙◌, length-take}
use Rattle.numbers.specs.Numbers.{Numbers}
use Rattle.numbers.specs.Values as V
use Rattle.numbers.specs.Rows.{Term}
use Rattle.numbers.proofs.Laws as L
use Rattle.numbers.proofs.Ends as S
use Rattle.span.specs.declared.shape.Span.{Span}
use Rattle.span.specs.Reached.{Reach}
use Rattle.span.specs.declared.shape.Reach.TheVariants.{Open, Closed}
use Rattle.span.specs.Making.{at_most?}
use Rattle.arithmetic.specs.Reaches.{sum, product, power}
use Rattle.span.specs.Holding.{Held, Within}
use Rattle.sheet.specs.declared.shape.Term.{Term as Written}
use Rattle.sheet.specs.declared.shape.Row.{Row}
use Rattle.sheet.specs.declared.system.System.{System}
use Rattle.sheet.specs.declared.shape.Bounds.{Bounds}
use Rattle.sheet.specs.declared.shape.Bounds.TheVariants.{AtLeast, AtMost, Between}
use Rattle.span.specs.declared.region.Region.{Region}
use Rattle.enclosure.specs.declared.shape.Judgement.{Judgement}
use Rattle.enclosure.specs.declared.shape.Judgement.TheVariants.{Met, Broken, Unsure}
use Rattle.enclosure.specs.declared.enclosure.Enclosure.{Ghosts}
use Rattle.span.specs.Regions.{at, In}
use Rattle.enclosure.specs.Rows.{Ops, factors, term_of, terms_from, row_of, Line, lines, term, lines_from, own_terms, row_terms, values, value, Meets, MeetsAll}
use Rattle.enclosure.specs.Judging.{judgement, joined, at_least, at_most, judged_row}
use Rattle.enclosure.specs.Plain.{plain, plain_row, plain_laws}
use Rattle.enclosure.specs.Results.{NominalReach}
use Rattle.enclosure.specs.Nominals.{nominal_number, nominal_variable, nominal_sum, nominal_product, nominal_power, nominal_span, number_span, sum_span, product_span, power_span}
use Rattle.enclosure.specs.Evaluation.{ops, variables, enclosed, judged_line, judged}

-- a relation that the operations keep
pub record Kept {X Y : Type 0} (O : Ops X) (P : Ops Y) (R : X → Y → Type 0) : Type 0 where
  pub number : (c : ℤ) → R (O.number c) (P.number c)
  pub plus : (a b : X) (p q : Y) → R a p → R b q → R (O.plus a b) (P.plus p q)
  pub times : (a b : X) (p q : Y) → R a p → R b q → R (O.times a b) (P.times p q)
  pub power : (a : X) (k : ℕ) (p : Y) → R a p → R (O.power a k) (P.power p k)

-- each term has an exponent for at most n variables
abbrev pub Short : ℕ → List Term → Type 0
Short n [] = Unit {0}
Short n (t ∷ ts) = (length t.exponents ≤ n) × Short n ts

module _ {X Y : Type 0} (O : Ops X) (P : Ops Y) (R : X → Y → Type 0) (K : Kept O P R) (n : ℕ) (v : ℕ → X) (x : ℕ → Y) (near : (i : ℕ) → i < n → R (v i) (x i)) where
  factors_kept : (a : X) (p : Y) (i : ℕ) (es : List ℕ) → i + length es ≤ n → R a p → R (factors O v a i es) (factors P x p i es)
  unfolding factors
  factors_kept a p i [] l h = h
  factors_kept a p i (e ∷ es) l h = factors_kept (O.times a (O.power (v i) e)) (P.times p (P.power (x i) e)) (suc i) es (omega arith) (K.times a (O.power (v i) e) p (P.power (x i) e) h (K.power (v i) e (x i) (near i (omega arith))))

  terms_kept : (a : X) (p : Y) (ts : List Term) → Short n ts → R a p → R (terms_from O v a ts) (terms_from P x p ts)
  unfolding terms_from
  terms_kept a p [] s h = h
  terms_kept a p (t ∷ ts) s h = terms_kept (O.plus a (term_of O v t)) (P.plus p (term_of P x t)) ts s.1 (K.plus a (term_of O v t) p (term_of P x t) h (factors_kept (O.number t.coefficient) (P.number t.coefficient) 0 t.exponents (let l = s.0 in omega arith) (K.number t.coefficient)))

  pub row_kept : (ts : List Term) → Short n ts → R (row_of O v ts) (row_of P x ts)
  row_kept ts s = terms_kept (O.number (pos 0)) (P.number (pos 0)) ts s (K.number (pos 0))

-- ---- rows of a system are short
short_map : (n : ℕ) (ts : List Written) → Short n (map (term n) ts)
short_map n [] = tt
short_map n (t ∷ ts) = (simp length-take (omega arith), short_map n ts)

abbrev pub AllShort : ℕ → List Line → Type 0
AllShort n [] = Unit {0}
AllShort n (l ∷ ls) = Short n l.terms × AllShort n ls

pub lines_short : (n : ℕ) (rs : List Row) (ts : List Written) → AllShort n (lines_from n rs ts)
unfolding lines_from
lines_short n [] ts = tt
lines_short n (r ∷ rs) ts = (short_map n (take r.own ts), lines_short n rs (drop r.own ts))

-- ---- judgements
-- what a judgement says of a fact
abbrev pub Tells : Judgement → Type 0 → Type 0
Tells Met A = A
Tells Broken A = ¬ A
Tells Unsure A = Unit {0}

joined_tells : (j k : Judgement) (A B : Type 0) → Tells j A → Tells k B → Tells (joined j k) (A × B)
joined_tells Met Met A B a b = (a, b)
joined_tells Met Broken A B a b = λ h. b h.1
joined_tells Met Unsure A B a b = tt
joined_tells Broken k A B a b = λ h. a h.0
joined_tells Unsure Met A B a b = tt
joined_tells Unsure Broken A B a b = λ h. b h.1
joined_tells Unsure Unsure A B a b = tt

module _ (N : Numbers) where
  open N use {carrier, le as ◌≼◌, le_trans}

  at_least_tells : (lo : ℤ) (s : Span) (v : carrier) → Within N s v → Tells (at_least lo s) (◌≼◌ (V.count N lo) v)
  at_least_tells lo s v h = by (at_most? lo s.lo) (at_most? lo s.hi)
    where
      by : (a : Dec (lo ≤ℤ s.lo)) (b : Dec (lo ≤ℤ s.hi)) → Tells (judgement a b) (◌≼◌ (V.count N lo) v)
      by (yes a) b = (S.count_low N lo v).1 (le_trans (L.int_mono N a) h.low)
      by (no n) (yes b) = tt
      by (no n) (no m) = λ k. m (L.int_back N (le_trans ((S.count_low N lo v).0 k) h.high))

  at_most_tells : (hi : ℤ) (s : Span) (v : carrier) → Within N s v → Tells (at_most hi s) (◌≼◌ v (V.count N hi))
  at_most_tells hi s v h = by (at_most? s.hi hi) (at_most? s.lo hi)
    where
      by : (a : Dec (s.hi ≤ℤ hi)) (b : Dec (s.lo ≤ℤ hi)) → Tells (judgement a b) (◌≼◌ v (V.count N hi))
      by (yes a) b = (S.count_high N hi v).1 (le_trans h.high (L.int_mono N a))
      by (no n) (yes b) = tt
      by (no n) (no m) = λ k. m (L.int_back N (le_trans h.low ((S.count_high N hi v).0 k)))

  pub row_tells : (k : Bounds) (r : Reach) (v : carrier) → Held N r v → Tells (judged_row k r) (Meets N k v)
  row_tells k Open v h = tt
  row_tells (AtLeast lo) (Closed s) v h = at_least_tells lo s v h
  row_tells (AtMost hi) (Closed s) v h = at_most_tells hi s v h
  row_tells (Between t) (Closed s) v h = joined_tells (at_least t.lo s) (at_most t.hi s) _ _ (at_least_tells t.lo s v h) (at_most_tells t.hi s v h)

-- ---- every kind of enclosure
module _ {X : Type 0} (E : Ghosts X) (N : Numbers) (x : ℕ → N.carrier) where
  kept : Kept (ops E) (values N) (λ e v. E.holds N e x v)
  kept = record {
    number = E.laws.numbers N x;
    plus = E.laws.sums N x;
    times = E.laws.products N x;
    power = E.laws.powers N x;
  }

  -- the enclosure of a row holds the row's value at every point of the box
  pub enclosed_holds : (b : Region) (inside : ℕ → ℤ) → In N x b → (ts : List Term) → Short b.n ts → E.holds N (enclosed E b inside ts) x (value N x ts)
  enclosed_holds b inside h ts s = row_kept (ops E) (values N) (λ e v. E.holds N e x v) kept b.n (variables E b inside) x (λ i l. E.laws.variables N x i (at b i) (inside i) (h i l)) ts s

  pub judged_tells : (b : Region) (inside : ℕ → ℤ) → In N x b → (ls : List Line) → AllShort b.n ls → Tells (judged E b inside ls) (MeetsAll N x ls)
  unfolding judged
  judged_tells b inside h [] s = tt
  judged_tells b inside h (l ∷ ls) s = joined_tells (judged_line E b inside l) (judged E b inside ls) _ _
      (row_tells N l.bounds (E.spanned (enclosed E b inside l.terms)) (value N x l.terms) (E.laws.spans N x (enclosed E b inside l.terms) (value N x l.terms) (enclosed_holds b inside h l.terms s.0)))
      (judged_tells b inside h ls s.1)

-- the enclosure of each row holds the row's value at every point of the box, over every kind of number and for every kind of enclosure
abbrev pub RowHolds : Type 1
RowHolds = (X : Type 0) (E : Ghosts X) (s : System) (i : ℕ) (b : Region) (inside : ℕ → ℤ) → b.n ≡ s.n → (N : Numbers) (x : ℕ → N.carrier) → In N x b → E.holds N (enclosed E b inside (row_terms s i)) x (value N x (row_terms s i))

pub row_holds : RowHolds
row_holds X E s i b inside e N x h = enclosed_holds E N x b inside h (row_terms s i) (rw e (short_map s.n (own_terms s i)))

-- what the judgement of a system says of every point of the box, over every kind of number and for every kind of enclosure
abbrev pub JudgedTells : Type 1
JudgedTells = (X : Type 0) (E : Ghosts X) (s : System) (b : Region) (inside : ℕ → ℤ) → b.n ≡ s.n → (N : Numbers) (x : ℕ → N.carrier) → In N x b → Tells (judged E b inside (lines s)) (MeetsAll N x (lines s))

pub system_tells : JudgedTells
system_tells X E s b inside e N x h = judged_tells E N x b inside h (lines s) (rw e (lines_short s.n s.rows.now s.terms.now))

-- ---- plain spans
pub plain_kept : (N : Numbers) (x : ℕ → N.carrier) → Kept plain (values N) (λ r v. Held N r v)
plain_kept N x = record { number = plain_laws.numbers N x; plus = plain_laws.sums N x; times = plain_laws.products N x; power = plain_laws.powers N x }

pub plain_row_holds : (N : Numbers) (x : ℕ → N.carrier) (b : Region) → In N x b → (ts : List Term) → Short b.n ts → Held N (plain_row b ts) (value N x ts)
plain_row_holds N x b h ts s = row_kept plain (values N) (λ r v. Held N r v) (plain_kept N x) b.n (λ i. Closed (at b i)) x h ts s

-- ---- plain and nominal judge alike: the span of a nominal row is the plain row
abbrev pub nominal : Ops NominalReach
nominal = record { number = nominal_number; plus = nominal_sum; times = nominal_product; power = nominal_power }

abbrev pub nominal_row : Region → (ℕ → ℤ) → List Term → NominalReach
nominal_row b inside ts = row_of nominal (λ i. nominal_variable i (at b i) (inside i)) ts

alike : Kept nominal plain (λ e r. nominal_span e ≡ r)
alike = record {
  number = λ c. number_span c;
  plus = λ a b p q h k. sum_span a b ∙ ap₂ sum h k;
  times = λ a b p q h k. product_span a b ∙ ap₂ product h k;
  power = λ a k p h. power_span a k ∙ ap (λ (r : Reach). power r k) h;
}

pub nominal_row_span : (n : ℕ) (b : Region) (inside : ℕ → ℤ) (ts : List Term) → Short n ts → nominal_span (nominal_row b inside ts) ≡ plain_row b ts
nominal_row_span n b inside ts s = row_kept nominal plain (λ e r. nominal_span e ≡ r) alike n (λ i. nominal_variable i (at b i) (inside i)) (λ i. Closed (at b i)) (λ i l. refl) ts s

abbrev pub NominalAlike : Type 0
NominalAlike = (s : System) (i : ℕ) (b : Region) (inside : ℕ → ℤ) → nominal_span (nominal_row b inside (row_terms s i)) ≡ plain_row b (row_terms s i)

pub nominal_alike : NominalAlike
nominal_alike s i b inside = nominal_row_span s.n b inside (row_terms s i) (short_map s.n (own_terms s i))
