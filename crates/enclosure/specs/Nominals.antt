-- The nominal span as an enclosure: a span, and a count between its ends.
use Rattle.std.specs.Prelude.{◌≡◌, ℕ, suc, ℤ, pos, ◌+ℤ◌, ◌*ℤ◌, refl}
use Prim.Native.Nat as Nat
use Rattle.std.proofs.Common.{sym, ap, ◌∙◌, subst}
use Rattle.std.specs.Int.Signed.{le_z_yes, ≤ℤ_refl}
use Rattle.numbers.specs.Numbers.{Numbers}
use Rattle.numbers.specs.Rounding.{floor}
use Rattle.numbers.specs.Ends.{Ends, only}
use Rattle.numbers.specs.Ends as E
use Rattle.span.specs.declared.shape.Span.{Span}
use Rattle.span.specs.Reached.{Reach}
use Rattle.span.specs.declared.shape.Reach.TheVariants as R
use Rattle.span.specs.Making.{Fit, fit?, closed}
use Rattle.span.specs.Holding.{ends}
use Rattle.arithmetic.specs.Reaches.{stretch, reached, sum, product, power, one}
use Rattle.span.specs.Holding.{Held}
use Rattle.enclosure.specs.declared.shape.NominalSpan.{NominalSpan}
use Rattle.enclosure.specs.Results.{NominalReach}
use Rattle.span.specs.declared.shape.Reach.TheVariants.{Open, Closed}
use Rattle.enclosure.specs.Between.{Amid, product_amid, sum_amid, brought, brought_above, brought_under}
use Rattle.enclosure.specs.Laws.{EnclosureLaws}
use Rattle.enclosure.specs.Plain.{plain_number, plain_laws}

-- between two ends with a nominal, or open
abbrev pub fitted : (e : Ends) (m : ℤ) → Amid e m → Dec (Fit e.from e.to) → NominalReach
fitted e m h (yes f) = Closed (record { span = closed e.from e.to f; nominal = m; above = h.0; under = h.1 })
fitted e m h (no n) = Open

abbrev pub nominal_number : ℤ → NominalReach
nominal_number c = fitted (only c) c (≤ℤ_refl c, ≤ℤ_refl c) (fit? c c)

-- a number outside is brought to the nearest end
abbrev pub nominal_variable : ℕ → Span → ℤ → NominalReach
nominal_variable i s m = Closed (record { span = s; nominal = brought s m; above = brought_above s m; under = brought_under s m })

abbrev pub amid : (a : NominalSpan) → Amid (ends a.span) a.nominal
amid a = (a.above, a.under)

abbrev pub nominal_sum : NominalReach → NominalReach → NominalReach
nominal_sum Open t = Open
nominal_sum (Closed a) Open = Open
nominal_sum (Closed a) (Closed b) =
    let e = E.sum (ends a.span) (ends b.span) in
    fitted e (a.nominal +ℤ b.nominal) (sum_amid (ends a.span) (ends b.span) a.nominal b.nominal (amid a) (amid b)) (fit? e.from e.to)

abbrev pub nominal_product : NominalReach → NominalReach → NominalReach
nominal_product Open t = Open
nominal_product (Closed a) Open = Open
nominal_product (Closed a) (Closed b) =
    let e = E.product (ends a.span) (ends b.span) in
    fitted e (floor (a.nominal *ℤ b.nominal) 65536) (product_amid (ends a.span) (ends b.span) a.nominal b.nominal (amid a) (amid b)) (fit? e.from e.to)

unfoldable pub nominal_power : NominalReach → ℕ → NominalReach
nominal_power r Nat.zero = Closed (record { span = one; nominal = pos 65536; above = le_z_yes tt; under = le_z_yes tt })
nominal_power r (suc k) = nominal_product (nominal_power r k) r

abbrev pub nominal_span : NominalReach → Reach
nominal_span Open = R.Open
nominal_span (Closed a) = R.Closed a.span

abbrev pub nominal_holds : (N : Numbers) → NominalReach → (ℕ → N.carrier) → N.carrier → Type 0
nominal_holds N r x v = Held N (nominal_span r) v

-- ---- its span is computed as the plain one
fitted_span : (e : Ends) (m : ℤ) (h : Amid e m) (d : Dec (Fit e.from e.to)) → nominal_span (fitted e m h d) ≡ reached e.from e.to d
fitted_span e m h (yes f) = refl
fitted_span e m h (no n) = refl

pub number_span : (c : ℤ) → nominal_span (nominal_number c) ≡ plain_number c
unfolding stretch
number_span c = fitted_span (only c) c _ (fit? c c)

pub sum_span : (a b : NominalReach) → nominal_span (nominal_sum a b) ≡ sum (nominal_span a) (nominal_span b)
unfolding stretch
sum_span Open b = refl
sum_span (Closed a) Open = refl
sum_span (Closed a) (Closed b) = let e = E.sum (ends a.span) (ends b.span) in fitted_span e _ _ (fit? e.from e.to)

pub product_span : (a b : NominalReach) → nominal_span (nominal_product a b) ≡ product (nominal_span a) (nominal_span b)
unfolding stretch
product_span Open b = refl
product_span (Closed a) Open = refl
product_span (Closed a) (Closed b) = let e = E.product (ends a.span) (ends b.span) in fitted_span e _ _ (fit? e.from e.to)

pub power_span : (a : NominalReach) (k : ℕ) → nominal_span (nominal_power a k) ≡ power (nominal_span a) k
unfolding nominal_power power
power_span a Nat.zero = refl
power_span a (suc k) = product_span (nominal_power a k) a ∙ ap (λ (r : Reach). product r (nominal_span a)) (power_span a k)

moved : (N : Numbers) {r s : Reach} (v : N.carrier) → r ≡ s → Held N s v → Held N r v
moved N v e h = subst (λ (t : Reach). Held N t v) (sym e) h

pub nominal_laws : EnclosureLaws nominal_number nominal_variable nominal_sum nominal_product nominal_power nominal_span nominal_holds
nominal_laws = record {
  numbers = λ N x c. moved N _ (number_span c) (plain_laws.numbers N x c);
  variables = λ N x i s m h. h;
  sums = λ N x a b p q h k. moved N _ (sum_span a b) (plain_laws.sums N x (nominal_span a) (nominal_span b) p q h k);
  products = λ N x a b p q h k. moved N _ (product_span a b) (plain_laws.products N x (nominal_span a) (nominal_span b) p q h k);
  powers = λ N x a k p h. moved N _ (power_span a k) (plain_laws.powers N x (nominal_span a) k p h);
  spans = λ N x a p h. h;
}

-- ---- what a nominal span is made of
-- its count, and 0 where it is open
abbrev pub nominal_at : NominalReach → ℤ
nominal_at Open = pos 0
nominal_at (Closed a) = a.nominal

abbrev pub nominal_in : Reach → ℤ → ℤ
nominal_in R.Open m = pos 0
nominal_in (R.Closed s) m = m

-- m lies between the ends of r
abbrev pub Around : Reach → ℤ → Type 0
Around R.Open m = Unit {0}
Around (R.Closed s) m = Amid (ends s) m
