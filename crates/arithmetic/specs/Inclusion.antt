-- What each operation of spans holds, over every kind of number.
use Rattle.std.specs.Prelude.{ℕ, suc, Bool, true, false, cond, ◌↔◌, ℤ, pos, IfSome, Some, None, Option, MatchOption, int_lt}
use Prim.Native.Nat as Nat
use Rattle.std.proofs.Common.{arith, inl, inr}
use Rattle.std.specs.Int.Signed.{≤ℤ_refl}
use Rattle.std.proofs.lemmas.Int.{clamps, ints}
use Rattle.std.specs.Int.{int_min, int_max}
use Rattle.numbers.specs.Numbers.{Numbers, Same}
use Rattle.numbers.specs.Values as V
use Rattle.numbers.specs.Ends.{Ends, Holds}
use Rattle.numbers.specs.Ends as E
use Rattle.numbers.proofs.Ends as S
use Rattle.numbers.proofs.Laws as L
use Rattle.span.specs.declared.shape.Span.{Span}
use Rattle.span.specs.Reached.{Reach}
use Rattle.span.specs.declared.shape.Reach.TheVariants.{Open, Closed}
use Rattle.span.specs.Making.{Fit, fit?, making}
use Rattle.rounding.specs.Sides.{Side, side, above, below, around}
use Rattle.arithmetic.specs.Reaches.{reached, stretch, reach, both, sum, difference, product, one, power, quotient, divided, common, within, closing, meet}
use Rattle.span.specs.Holding.{ends, Held, Within, Inside}

-- ---- the statements
-- a span holds what lies between the numbers that its ends stand for
abbrev pub HoldsIs : Type 1
HoldsIs = (N : Numbers) (s : Span) (x : N.carrier) → Within N s x ↔ (N.le (V.count N s.lo) x × N.le x (V.count N s.hi))

abbrev pub SumHolds : Type 1
SumHolds = (N : Numbers) (s t : Reach) (x y : N.carrier) → Held N s x → Held N t y → Held N (sum s t) (N.add x y)

abbrev pub DifferenceHolds : Type 1
DifferenceHolds = (N : Numbers) (s t : Reach) (x y : N.carrier) → Held N s x → Held N t y → Held N (difference s t) (N.add x (N.neg y))

abbrev pub ProductHolds : Type 1
ProductHolds = (N : Numbers) (s t : Reach) (x y : N.carrier) → Held N s x → Held N t y → Held N (product s t) (N.mul x y)

abbrev pub PowerHolds : Type 1
PowerHolds = (N : Numbers) (r : Reach) (k : ℕ) (x : N.carrier) → Held N r x → Held N (power r k) (V.raised N x k)

-- it holds each number that times a number of the divisor is a number of the dividend
abbrev pub QuotientHolds : Type 1
QuotientHolds = (N : Numbers) (s t : Reach) (q x y : N.carrier) → Held N s y → Held N t q → Same N.le (N.mul q x) y → Held N (quotient s t) x

abbrev pub WithinHolds : Type 1
WithinHolds = (N : Numbers) (s : Span) (t : Reach) (x : N.carrier) → Within N s x → Held N t x → MatchOption (within s t) ⊥ (λ r. Within N r x)

abbrev pub MeetHolds : Type 1
MeetHolds = (N : Numbers) (s t : Reach) (x : N.carrier) → Held N s x → Held N t x → MatchOption (meet s t) ⊥ (λ r. Held N r x)

-- ---- their proofs
module _ (N : Numbers) where
  open N use {carrier, le as ◌≼◌, one as unity, add as ◌⊕◌, mul as ◌⊗◌, neg, le_trans}

  infix 40 ◌≼◌
  infixl 60 ◌⊕◌
  infixl 70 ◌⊗◌
  pub holds_is : (s : Span) (x : carrier) → Within N s x ↔ (V.count N s.lo ≼ x × x ≼ V.count N s.hi)
  holds_is s x = S.holds_is N (ends s) x

  -- what lies between two ends, the reach between them holds
  pub reach_holds : (e : Ends) (x : carrier) → Holds N e x → Held N (reach e) x
  unfolding stretch
  reach_holds e x h = by (fit? e.from e.to)
    where
      by : (d : Dec (Fit e.from e.to)) → Held N (reached e.from e.to d) x
      by (yes f) = h
      by (no n) = tt

  both_holds : (f : Ends → Ends → Ends) (g : carrier → carrier → carrier) → ((s t : Ends) (x y : carrier) → Holds N s x → Holds N t y → Holds N (f s t) (g x y))
      → (s t : Reach) (x y : carrier) → Held N s x → Held N t y → Held N (both f s t) (g x y)
  both_holds f g l Open t x y h k = tt
  both_holds f g l (Closed s) Open x y h k = tt
  both_holds f g l (Closed s) (Closed t) x y h k = reach_holds (f (ends s) (ends t)) (g x y) (l (ends s) (ends t) x y h k)

  pub sum_holds : (s t : Reach) (x y : carrier) → Held N s x → Held N t y → Held N (sum s t) (x ⊕ y)
  sum_holds = both_holds E.sum ◌⊕◌ (λ s t x y h k. S.sum_holds N h k)

  pub difference_holds : (s t : Reach) (x y : carrier) → Held N s x → Held N t y → Held N (difference s t) (x ⊕ neg y)
  difference_holds = both_holds E.difference (λ x y. x ⊕ neg y) (λ s t x y h k. S.difference_holds N h k)

  pub product_holds : (s t : Reach) (x y : carrier) → Held N s x → Held N t y → Held N (product s t) (x ⊗ y)
  product_holds = both_holds E.product ◌⊗◌ (λ s t x y h k. S.product_holds N h k)

  pub one_holds : Within N one unity
  one_holds = record { low = (Numbers.mul_one N (V.int N (pos 65536))).down; high = (Numbers.mul_one N (V.int N (pos 65536))).up }

  pub power_holds : (r : Reach) (k : ℕ) (x : carrier) → Held N r x → Held N (power r k) (V.raised N x k)
  unfolding power V.raised
  power_holds r Nat.zero x h = one_holds
  power_holds r (suc k) x h = product_holds (power r k) r (V.raised N x k) x (power_holds r k x h) h

  pub quotient_holds : (s t : Reach) (q x y : carrier) → Held N s y → Held N t q → Same ◌≼◌ (q ⊗ x) y → Held N (quotient s t) x
  quotient_holds Open t q x y h k e = tt
  quotient_holds (Closed s) Open q x y h k e = tt
  quotient_holds (Closed s) (Closed t) q x y h k e = by (side t)
    where
      by : (w : Side t) → Held N (divided s t w) x
      by (above o) = reach_holds (E.quotient (ends s) (ends t)) x (S.quotient_holds N (inl o) h k e)
      by (below o) = reach_holds (E.quotient (ends s) (ends t)) x (S.quotient_holds N (inr o) h k e)
      by (around a b) = tt

  -- ---- meets
  cond_low : (t : Bool) (a b : ℤ) {x : carrier} → V.int N a ≼ x → V.int N b ≼ x → V.int N (cond t a b) ≼ x
  cond_low true a b h k = h
  cond_low false a b h k = k

  cond_high : (t : Bool) (a b : ℤ) {x : carrier} → x ≼ V.int N a → x ≼ V.int N b → x ≼ V.int N (cond t a b)
  cond_high true a b h k = h
  cond_high false a b h k = k

  pub common_holds : (s t : Span) (x : carrier) → Within N s x → Within N t x → MatchOption (common s t) ⊥ (λ r. Within N r x)
  common_holds s t x h k = by (fit? (int_max s.lo t.lo) (int_min s.hi t.hi))
    where
      low : V.int N (int_max s.lo t.lo) ≼ V.counted N x
      low = cond_low (int_lt t.lo s.lo) s.lo t.lo h.low k.low

      high : V.counted N x ≼ V.int N (int_min s.hi t.hi)
      high = cond_high (int_lt t.hi s.hi) t.hi s.hi k.high h.high

      by : (d : Dec (Fit (int_max s.lo t.lo) (int_min s.hi t.hi))) → MatchOption (making (int_max s.lo t.lo) (int_min s.hi t.hi) d) ⊥ (λ r. Within N r x)
      by (yes o) = record { low = low; high = high }
      by (no n) = n (record { ordered = L.int_back N (le_trans low high); least = let p = s.least in omega (arith, ints, clamps); most = let p = s.most in omega (arith, ints, clamps) })

  pub within_holds : (s : Span) (t : Reach) (x : carrier) → Within N s x → Held N t x → MatchOption (within s t) ⊥ (λ r. Within N r x)
  within_holds s Open x h k = h
  within_holds s (Closed t) x h k = common_holds s t x h k

  pub meet_holds : (s t : Reach) (x : carrier) → Held N s x → Held N t x → MatchOption (meet s t) ⊥ (λ r. Held N r x)
  meet_holds Open t x h k = k
  meet_holds (Closed s) t x h k = by (within s t) (within_holds s t x h k)
    where
      by : (o : Option Span) → MatchOption o ⊥ (λ r. Within N r x) → MatchOption (closing o) ⊥ (λ r. Held N r x)
      by None c = c
      by (Some r) c = c

-- ---- the meet lies inside
pub within_inside : (s : Span) (t : Reach) → IfSome (within s t) (λ r. Inside r s)
within_inside s Open = (≤ℤ_refl s.lo, ≤ℤ_refl s.hi)
within_inside s (Closed t) = by (fit? (int_max s.lo t.lo) (int_min s.hi t.hi))
  where
    by : (d : Dec (Fit (int_max s.lo t.lo) (int_min s.hi t.hi))) → IfSome (making (int_max s.lo t.lo) (int_min s.hi t.hi) d) (λ r. Inside r s)
    by (yes o) = (omega (arith, ints, clamps), omega (arith, ints, clamps))
    by (no n) = tt
