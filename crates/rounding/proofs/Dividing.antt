-- Division of machine integers, and the quotient of two closed spans.
use Rattle.std.proofs.Common.{◌≡◌, ℕ, zero, suc, ◌≤◌, ℤ, pos, negsuc, ◌-ℤ◌, ◌*ℤ◌, neg_ℤ, ◌≤ℤ◌, ◌<ℤ◌, Some, sym, refl, ap, ◌∙◌, arith, w32, w64, SFits}
use lib.Signed.{shr_z, mag, mag_shr}
use Rattle.std.proofs.lemmas.Int.{ints}
use Rattle.std.specs.Int.{int_div_euclid}
use Rattle.numbers.specs.Rounding.{floor_by, ceil_by}
use Rattle.numbers.specs.Ends as E
use Rattle.rounding.specs.Sides.{Side, side, above, below, around, ratio}
use Rattle.span.specs.Holding.{ends}
use Rattle.numbers.specs.Ends.{Ends}
use Rattle.span.specs.declared.shape.Span.{Span}

euclid_shr : (z : ℤ) (n : ℕ) → int_div_euclid z (pos n) ≡ shr_z z n
euclid_shr (pos a) n = refl
euclid_shr (negsuc a) n = refl

minus_is : (z : ℤ) → pos 0 -ℤ z ≡ neg_ℤ z
minus_is z = omega (arith, ints)

twice : (z : ℤ) → neg_ℤ (neg_ℤ z) ≡ z
twice z = omega (arith, ints)

pub ceil_above : (p q : ℤ) → pos 0 <ℤ q → pos 0 -ℤ int_div_euclid (pos 0 -ℤ p) q ≡ ceil_by p q
ceil_above p (pos n) h = minus_is (int_div_euclid (pos 0 -ℤ p) (pos n)) ∙ ap neg_ℤ (ap (λ (z : ℤ). int_div_euclid z (pos n)) (minus_is p) ∙ euclid_shr (neg_ℤ p) n)
ceil_above p (negsuc n) h = absurd (omega (arith, ints))

pub floor_below : (p q : ℤ) → q <ℤ pos 0 → int_div_euclid (pos 0 -ℤ p) (pos 0 -ℤ q) ≡ floor_by p q
floor_below p (pos n) h = absurd (omega (arith, ints))
floor_below p (negsuc n) h = ap (λ (z : ℤ). int_div_euclid z (pos 0 -ℤ negsuc n)) (minus_is p) ∙ ap (int_div_euclid (neg_ℤ p)) (minus_is (negsuc n)) ∙ euclid_shr (neg_ℤ p) (suc n)

pub ceil_below : (p q : ℤ) → q <ℤ pos 0 → pos 0 -ℤ int_div_euclid p (pos 0 -ℤ q) ≡ ceil_by p q
ceil_below p (pos n) h = absurd (omega (arith, ints))
ceil_below p (negsuc n) h = minus_is (int_div_euclid p (pos 0 -ℤ negsuc n)) ∙ ap neg_ℤ (ap (int_div_euclid p) (minus_is (negsuc n)) ∙ euclid_shr p (suc n) ∙ ap (λ (z : ℤ). shr_z z (suc n)) (sym (twice p)))

-- the quotient of a number that is not too large can be negated
pub euclid_small : (z q : ℤ) → negsuc 4611686018427387903 ≤ℤ z → z ≤ℤ pos 4611686018427387904 → pos 0 <ℤ q → SFits w64 (pos 0 -ℤ int_div_euclid z q)
euclid_small z (pos n) h k l = rw (euclid_shr z n) (let m = mag_shr z n in small (shr_z z n) (bound z h k) m)
  where
    bound : (z : ℤ) → negsuc 4611686018427387903 ≤ℤ z → z ≤ℤ pos 4611686018427387904 → mag z ≤ 4611686018427387904
    bound (pos a) h k = omega (arith, ints)
    bound (negsuc a) h k = omega (arith, ints)

    small : (r : ℤ) → mag z ≤ 4611686018427387904 → mag r ≤ mag z → SFits w64 (pos 0 -ℤ r)
    small (pos a) h k = omega (arith, ints)
    small (negsuc a) h k = omega (arith, ints)
euclid_small z (negsuc n) h k l = absurd (omega (arith, ints))

-- an end of a span times 65536
pub scaled_fits : (a : ℤ) → SFits w32 a → (negsuc 4611686018427387903 ≤ℤ (a *ℤ pos 65536)) × ((a *ℤ pos 65536) ≤ℤ pos 4611686018427387903)
scaled_fits (pos n) f = (omega (arith, ints), omega (arith, ints))
scaled_fits (negsuc n) f = (omega (arith, ints), omega (arith, ints))

-- a divisor above 0 or below 0
pub ratio_some : (a b : Span) (e : Ends) → ¬ ((b.lo ≤ℤ pos 0) × (pos 0 ≤ℤ b.hi)) → e ≡ E.quotient (ends a) (ends b) → Some e ≡ ratio a b (side b)
ratio_some a b e n q = by (side b)
  where
    by : (w : Side b) → Some e ≡ ratio a b w
    by (above l) = ap Some q
    by (below l) = ap Some q
    by (around l m) = absurd (n (l, m))

pub under_it : (q : ℤ) → q ≤ℤ pos 0 → (q ≡ pos 0 → ⊥) → q <ℤ pos 0
under_it (pos zero) h n = absurd (n refl)
under_it (pos (suc k)) h n = absurd (omega (arith, ints))
under_it (negsuc k) h n = omega (arith, ints)
