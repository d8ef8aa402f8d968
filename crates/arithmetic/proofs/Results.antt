-- When a result is closed and when it is open, and what power 0 and power 1 are.
use Rattle.std.proofs.Common.{◌≡◌, ℕ, ◌+◌, ℤ, pos, negsuc, ◌*ℤ◌, neg_ℤ, Some, sym, refl, ap, ◌∙◌, add-one, arith}
use Rattle.std.proofs.lemmas.Int.{ints, clamps}
use Rattle.std.specs.Int.{int_min, int_max}
use Rattle.numbers.specs.Rounding.{floor, ceil, least, greatest}
use Rattle.span.specs.declared.shape.Span.{Span}
use Rattle.span.specs.Reached.{Reach}
use Rattle.span.specs.declared.shape.Reach.TheVariants.{Open, Closed}
use Rattle.span.specs.Making.{Fit, fit?, closed}
use Rattle.arithmetic.specs.Reaches.{reached, stretch, one, power, product, within}
use Rattle.span.proofs.Alike.{same_span, made_closed}

-- a closed span is the reach between its ends
pub reach_closed : (s : Span) (a b : ℤ) → s.lo ≡ a → s.hi ≡ b → Closed s ≡ stretch a b
unfolding stretch
reach_closed s a b p q = by (fit? a b)
  where
    by : (d : Dec (Fit a b)) → Closed s ≡ reached a b d
    by (yes f) = ap Closed (same_span s (closed a b f) p q)
    by (no n) = absurd (n (record { ordered = rw (← p, ← q) s.ordered; least = rw (← p) s.least; most = rw (← q) s.most }))

pub reach_open : (a b : ℤ) → ¬ (Fit a b) → Open ≡ stretch a b
unfolding stretch
reach_open a b n = by (fit? a b)
  where
    by : (d : Dec (Fit a b)) → Open ≡ reached a b d
    by (yes f) = absurd (n f)
    by (no m) = refl

pub power_zero : (s : Reach) → stretch (pos 65536) (pos 65536) ≡ power s 0
unfolding power
power_zero s = sym (reach_closed one (pos 65536) (pos 65536) refl refl)

pub power_more : (s : Reach) (k : ℕ) → power s (k + 1) ≡ product (power s k) s
unfolding power
power_more s k = rw add-one

pub within_closed : (s : Span) (t : Reach) (u r : Span) → t ≡ Closed u → r.lo ≡ int_max s.lo u.lo → r.hi ≡ int_min s.hi u.hi → Some r ≡ within s t
within_closed s t u r e p q = rw e (made_closed r (int_max s.lo u.lo) (int_min s.hi u.hi) p q)

-- ---- power 0 changes nothing, and power 1 is the span itself
floor_exact : (w z : ℤ) → w ≡ z *ℤ pos 65536 → floor w 65536 ≡ z
floor_exact (pos a) z e = omega (arith, ints)
floor_exact (negsuc a) z e = omega (arith, ints)

ceil_exact : (w z : ℤ) → w ≡ z *ℤ pos 65536 → ceil w 65536 ≡ z
ceil_exact w z e = let h = floor_exact (neg_ℤ w) (neg_ℤ z) (ap neg_ℤ e ∙ sym (negated z)) in omega (arith, ints)
  where
    negated : (z : ℤ) → neg_ℤ z *ℤ pos 65536 ≡ neg_ℤ (z *ℤ pos 65536)
    negated z = omega (arith, ints)

product_one : (r : Reach) → product (Closed one) r ≡ r
product_one Open = refl
product_one (Closed s) = let o = s.ordered in
    let l : least (pos 65536 *ℤ s.lo) (pos 65536 *ℤ s.hi) (pos 65536 *ℤ s.lo) (pos 65536 *ℤ s.hi) ≡ s.lo *ℤ pos 65536 = omega (arith, ints, clamps) in
    let g : greatest (pos 65536 *ℤ s.lo) (pos 65536 *ℤ s.hi) (pos 65536 *ℤ s.lo) (pos 65536 *ℤ s.hi) ≡ s.hi *ℤ pos 65536 = omega (arith, ints, clamps) in
    sym (reach_closed s _ _ (sym (floor_exact _ s.lo l)) (sym (ceil_exact _ s.hi g)))

pub power_one : (r : Reach) → power r 1 ≡ r
unfolding power
power_one r = product_one r
