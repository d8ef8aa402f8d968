-- NominalReach spans are equal when their spans and their counts are, and what the code gives.
use Rattle.std.proofs.Common.{◌≡◌, ℕ, ◌+◌, ℤ, pos, ◌+ℤ◌, ◌*ℤ◌, ◌≤ℤ◌, sym, refl, ap, ◌∙◌, subst, add-one, arith, w32, SFits}
use mathlib.Core.HLevel.{is_prop→PathP}
use lib.Dec.{T_prop}
use Rattle.std.proofs.lemmas.Int.{ints}
use lib.Signed.{le_z, ≤ℤ_refl}
use Rattle.numbers.specs.Rounding.{floor}
use Rattle.numbers.specs.Ends.{Ends, only}
use Rattle.numbers.specs.Ends as E
use Rattle.span.specs.declared.shape.Span.{Span}
use Rattle.span.specs.Reached.{Reach}
use Rattle.span.specs.declared.shape.Reach.TheVariants as R
use Rattle.span.specs.Making.{Fit, fit?}
use Rattle.span.specs.Holding.{ends}
use Rattle.arithmetic.specs.Reaches.{reached, reach, sum, product, one, stretch}
use Rattle.arithmetic.proofs.Results.{reach_closed}
use Rattle.enclosure.specs.declared.shape.NominalSpan.{NominalSpan}
use Rattle.enclosure.specs.Results.{NominalReach}
use Rattle.span.specs.declared.shape.Reach.TheVariants.{Open, Closed}
use Rattle.enclosure.specs.Between.{Amid, product_amid, sum_amid, brought}
use Rattle.enclosure.specs.Plain.{plain_number}
use Rattle.enclosure.specs.Nominals.{fitted, amid, nominal_number, nominal_variable, nominal_sum, nominal_product, nominal_power, nominal_span, nominal_at, nominal_in, Around, number_span, sum_span, product_span}

≤ℤ_prop : (a b : ℤ) → IsProp (a ≤ℤ b)
≤ℤ_prop a b p q = λ i. record { le = T_prop (le_z a b) p.le q.le i }

same_middled : (a b : NominalSpan) → a.span ≡ b.span → a.nominal ≡ b.nominal → a ≡ b
same_middled a b p q = λ i. record {
  span = p i;
  nominal = q i;
  above = is_prop→PathP (λ j. (p j).lo ≤ℤ q j) (λ j. ≤ℤ_prop (p j).lo (q j)) a.above b.above i;
  under = is_prop→PathP (λ j. q j ≤ℤ (p j).hi) (λ j. ≤ℤ_prop (q j) (p j).hi) a.under b.under i;
}

-- the span of a closed reach
span_of : Span → Reach → Span
span_of d R.Open = d
span_of d (R.Closed s) = s

abbrev IsOpen : Reach → Type 0
IsOpen R.Open = Unit {0}
IsOpen (R.Closed s) = ⊥

pub same_nominal : (p q : NominalReach) → nominal_span p ≡ nominal_span q → nominal_at p ≡ nominal_at q → p ≡ q
unfolding span_of
same_nominal Open Open e f = refl
same_nominal Open (Closed b) e f = absurd (subst IsOpen e tt)
same_nominal (Closed a) Open e f = absurd (subst IsOpen (sym e) tt)
same_nominal (Closed a) (Closed b) e f = ap Closed (same_middled a b (ap (span_of a.span) e) f)

-- what is between the ends e is around their reach
pub around_reach : (e : Ends) (m : ℤ) → Amid e m → Around (reach e) m
unfolding stretch
around_reach e m h = by (fit? e.from e.to)
  where
    by : (d : Dec (Fit e.from e.to)) → Around (reached e.from e.to d) m
    by (yes f) = h
    by (no n) = tt

fitted_at : (e : Ends) (m : ℤ) (h : Amid e m) (d : Dec (Fit e.from e.to)) → nominal_at (fitted e m h d) ≡ nominal_in (reached e.from e.to d) m
fitted_at e m h (yes f) = refl
fitted_at e m h (no n) = refl

-- what the code makes of a reach and a count
pub number_made : (c : ℤ) (n : NominalReach) (r : Reach) → r ≡ plain_number c → nominal_span n ≡ r → nominal_at n ≡ nominal_in r c → n ≡ nominal_number c
unfolding stretch
number_made c n r p e f = same_nominal n (nominal_number c) (e ∙ p ∙ sym (number_span c)) (f ∙ ap (λ (t : Reach). nominal_in t c) p ∙ sym (fitted_at (only c) c _ (fit? c c)))

pub sum_made : (p q : NominalReach) (a b : NominalSpan) (n : NominalReach) (r : Reach) → p ≡ Closed a → q ≡ Closed b → r ≡ sum (R.Closed a.span) (R.Closed b.span) → nominal_span n ≡ r → nominal_at n ≡ nominal_in r (a.nominal +ℤ b.nominal) → n ≡ nominal_sum p q
unfolding stretch
sum_made p q a b n r u v w e f = rw (u, v) (same_nominal n (nominal_sum (Closed a) (Closed b)) (e ∙ w ∙ sym (sum_span (Closed a) (Closed b))) (f ∙ ap (λ (t : Reach). nominal_in t (a.nominal +ℤ b.nominal)) w ∙ sym (fitted_at (E.sum (ends a.span) (ends b.span)) (a.nominal +ℤ b.nominal) _ (fit? (E.sum (ends a.span) (ends b.span)).from (E.sum (ends a.span) (ends b.span)).to))))

pub product_made : (p q : NominalReach) (a b : NominalSpan) (n : NominalReach) (r : Reach) → p ≡ Closed a → q ≡ Closed b → r ≡ product (R.Closed a.span) (R.Closed b.span) → nominal_span n ≡ r → nominal_at n ≡ nominal_in r (floor (a.nominal *ℤ b.nominal) 65536) → n ≡ nominal_product p q
unfolding stretch
product_made p q a b n r u v w e f = rw (u, v) (same_nominal n (nominal_product (Closed a) (Closed b)) (e ∙ w ∙ sym (product_span (Closed a) (Closed b))) (f ∙ ap (λ (t : Reach). nominal_in t (floor (a.nominal *ℤ b.nominal) 65536)) w ∙ sym (fitted_at (E.product (ends a.span) (ends b.span)) (floor (a.nominal *ℤ b.nominal) 65536) _ (fit? (E.product (ends a.span) (ends b.span)).from (E.product (ends a.span) (ends b.span)).to))))

pub sum_around : (a b : NominalSpan) (r : Reach) → r ≡ sum (R.Closed a.span) (R.Closed b.span) → Around r (a.nominal +ℤ b.nominal)
sum_around a b r e = rw e (around_reach (E.sum (ends a.span) (ends b.span)) (a.nominal +ℤ b.nominal) (sum_amid (ends a.span) (ends b.span) a.nominal b.nominal (amid a) (amid b)))

pub product_around : (a b : NominalSpan) (r : Reach) → r ≡ product (R.Closed a.span) (R.Closed b.span) → Around r (floor (a.nominal *ℤ b.nominal) 65536)
product_around a b r e = rw e (around_reach (E.product (ends a.span) (ends b.span)) (floor (a.nominal *ℤ b.nominal) 65536) (product_amid (ends a.span) (ends b.span) a.nominal b.nominal (amid a) (amid b)))

pub number_around : (c : ℤ) (r : Reach) → r ≡ plain_number c → Around r c
number_around c r e = rw e (around_reach (only c) c (≤ℤ_refl c, ≤ℤ_refl c))

pub power_zero : (p n : NominalReach) (r : Reach) → r ≡ stretch (pos 65536) (pos 65536) → nominal_span n ≡ r → nominal_at n ≡ nominal_in r (pos 65536) → n ≡ nominal_power p 0
unfolding nominal_power stretch
power_zero p n r w e f = same_nominal n _ (e ∙ w ∙ sym (reach_closed one (pos 65536) (pos 65536) refl refl)) (f ∙ ap (λ (t : Reach). nominal_in t (pos 65536)) w)

pub power_more : (p : NominalReach) (k : ℕ) → nominal_power p (k + 1) ≡ nominal_product (nominal_power p k) p
unfolding nominal_power
power_more p k = rw add-one

pub nominal_fits : (a : NominalSpan) → SFits w32 a.nominal
nominal_fits a = let p = a.above in let q = a.under in let r = a.span.least in let s = a.span.most in omega (arith, ints)

pub variable_made : (i : ℕ) (s : Span) (m : ℤ) (a : NominalSpan) → a.span ≡ s → a.nominal ≡ brought s m → Closed a ≡ nominal_variable i s m
variable_made i s m a e f = ap Closed (same_middled a _ e f)
