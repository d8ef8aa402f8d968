-- What rounding, the least and the greatest say of products.
use Rattle.std.proofs.Common.{ℕ, suc, ◌<◌, ℤ, pos, negsuc, ◌*ℤ◌, neg_ℤ, ◌≤ℤ◌, ◌<ℤ◌, arith}
use native.Mathlib.Nat.{mul-div-le, lt-mul-div-succ}
use borrow.Author.Differences.{ints}
use Rattle.std.proofs.lemmas.Int.{clamps}
use Rattle.numbers.specs.Rounding.{floor, ceil, floor_by, ceil_by, least, greatest}
use Rattle.numbers.proofs.Integers.{mul_mono, neg_mul, ≤ℤ-trans}

pub least_is : (a b c d : ℤ) → (least a b c d ≤ℤ a) × (least a b c d ≤ℤ b) × (least a b c d ≤ℤ c) × (least a b c d ≤ℤ d)
least_is a b c d = omega (arith, ints, clamps)

pub greatest_is : (a b c d : ℤ) → (a ≤ℤ greatest a b c d) × (b ≤ℤ greatest a b c d) × (c ≤ℤ greatest a b c d) × (d ≤ℤ greatest a b c d)
greatest_is a b c d = omega (arith, ints, clamps)

pub floor_le : (z : ℤ) (m : ℕ) → 0 < m → (floor z m *ℤ pos m) ≤ℤ z
floor_le (pos a) m h = omega (arith, ints, mul-div-le a m)
floor_le (negsuc a) m h = omega (arith, ints, lt-mul-div-succ a h)

pub le_ceil : (z : ℤ) (m : ℕ) → 0 < m → z ≤ℤ (ceil z m *ℤ pos m)
le_ceil z m h = rw neg_mul (omega (arith, ints, floor_le (neg_ℤ z) m h))

under_floor : (m p : ℤ) (n : ℕ) → 0 < n → m ≤ℤ floor p n → (m *ℤ pos n) ≤ℤ p
under_floor m p n h k = ≤ℤ-trans (mul_mono (omega (arith, ints)) k) (floor_le p n h)

over_ceil : (m p : ℤ) (n : ℕ) → 0 < n → ceil p n ≤ℤ m → p ≤ℤ (m *ℤ pos n)
over_ceil m p n h k = ≤ℤ-trans (le_ceil p n h) (mul_mono (omega (arith, ints)) k)

pub under_floor_by : {m q : ℤ} (p : ℤ) → pos 0 <ℤ q → m ≤ℤ floor_by p q → (m *ℤ q) ≤ℤ p
under_floor_by {m} {q = pos n} p o k = under_floor m p n (omega (arith, ints)) k
under_floor_by {m} {q = negsuc n} p o k = absurd (omega (arith, ints))

pub under_floor_by_neg : {m q : ℤ} (p : ℤ) → q <ℤ pos 0 → m ≤ℤ floor_by p q → (m *ℤ neg_ℤ q) ≤ℤ neg_ℤ p
under_floor_by_neg {m} {q = pos n} p o k = absurd (omega (arith, ints))
under_floor_by_neg {m} {q = negsuc n} p o k = under_floor m (neg_ℤ p) (suc n) (omega arith) k

pub over_ceil_by : {m q : ℤ} (p : ℤ) → pos 0 <ℤ q → ceil_by p q ≤ℤ m → p ≤ℤ (m *ℤ q)
over_ceil_by {m} {q = pos n} p o k = over_ceil m p n (omega (arith, ints)) k
over_ceil_by {m} {q = negsuc n} p o k = absurd (omega (arith, ints))

pub over_ceil_by_neg : {m q : ℤ} (p : ℤ) → q <ℤ pos 0 → ceil_by p q ≤ℤ m → neg_ℤ p ≤ℤ (m *ℤ neg_ℤ q)
over_ceil_by_neg {m} {q = pos n} p o k = absurd (omega (arith, ints))
over_ceil_by_neg {m} {q = negsuc n} p o k = over_ceil m (neg_ℤ p) (suc n) (omega arith) k
