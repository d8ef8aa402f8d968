-- A product of two integers lies between those of the ends that they lie between, also when rounded.
use Rattle.std.specs.Prelude.{ℕ, suc, ℤ, pos, negsuc, ◌+ℤ◌, ◌*ℤ◌, ◌≤ℤ◌}
use Rattle.std.proofs.Common.{mul-le-mul_right, arith}
use Rattle.std.proofs.Math.IntN.{*ℤ_comm}
use borrow.Author.Differences.{ints, le_out}
use Rattle.std.proofs.lemmas.Int.{clamps}
use Rattle.std.specs.Int.{int_min, int_max}
use Rattle.numbers.specs.Rounding.{floor, ceil, least, greatest}
use Rattle.numbers.specs.Ends.{Ends}
use Rattle.numbers.specs.Ends as E
use Rattle.numbers.proofs.Rounding.{least_is, greatest_is}
use Rattle.span.specs.declared.shape.Span.{Span}

pub floor_mono : (z w : ℤ) → z ≤ℤ w → floor z 65536 ≤ℤ floor w 65536
floor_mono (pos a) (pos b) h = omega (arith, ints)
floor_mono (pos a) (negsuc b) h = absurd (omega (arith, ints))
floor_mono (negsuc a) (pos b) h = omega (arith, ints)
floor_mono (negsuc a) (negsuc b) h = omega (arith, ints)

pub floor_ceil : (z : ℤ) → floor z 65536 ≤ℤ ceil z 65536
floor_ceil (pos (ℕ.zero)) = omega (arith, ints)
floor_ceil (pos (suc a)) = omega (arith, ints)
floor_ceil (negsuc a) = omega (arith, ints)

ends_low : (c d y a w : ℤ) → c ≤ℤ y → y ≤ℤ d → w ≤ℤ (c *ℤ a) → w ≤ℤ (d *ℤ a) → w ≤ℤ (y *ℤ a)
ends_low c d y (pos n) w h k p q = omega (arith, ints, mul-le-mul_right n (le_out c y h))
ends_low c d y (negsuc n) w h k p q = omega (arith, ints, mul-le-mul_right (suc n) (le_out y d k))

ends_high : (c d y a w : ℤ) → c ≤ℤ y → y ≤ℤ d → (c *ℤ a) ≤ℤ w → (d *ℤ a) ≤ℤ w → (y *ℤ a) ≤ℤ w
ends_high c d y (pos n) w h k p q = omega (arith, ints, mul-le-mul_right n (le_out y d k))
ends_high c d y (negsuc n) w h k p q = omega (arith, ints, mul-le-mul_right (suc n) (le_out c y h))

-- m lies between the ends e
abbrev pub Amid : Ends → ℤ → Type 0
Amid e m = (e.from ≤ℤ m) × (m ≤ℤ e.to)

pub product_amid : (e f : Ends) (m n : ℤ) → Amid e m → Amid f n → Amid (E.product e f) (floor (m *ℤ n) 65536)
product_amid e f m n h k = (floor_mono lo (m *ℤ n) low, step (floor_mono (m *ℤ n) hi high) (floor_ceil hi))
  where
    open e use {from as a, to as b}
    open f use {from as c, to as d}

    lo : ℤ
    lo = least (a *ℤ c) (a *ℤ d) (b *ℤ c) (b *ℤ d)

    hi : ℤ
    hi = greatest (a *ℤ c) (a *ℤ d) (b *ℤ c) (b *ℤ d)

    step : {x y z : ℤ} → x ≤ℤ y → y ≤ℤ z → x ≤ℤ z
    step p q = omega (arith, ints)

    low : lo ≤ℤ (m *ℤ n)
    low = let l = least_is (a *ℤ c) (a *ℤ d) (b *ℤ c) (b *ℤ d) in
        ends_low a b m n lo h.0 h.1
        (rw (*ℤ_comm a n) (ends_low c d n a lo k.0 k.1 (rw (*ℤ_comm c a) l.0) (rw (*ℤ_comm d a) l.1)))
        (rw (*ℤ_comm b n) (ends_low c d n b lo k.0 k.1 (rw (*ℤ_comm c b) l.2) (rw (*ℤ_comm d b) l.3)))

    high : (m *ℤ n) ≤ℤ hi
    high = let g = greatest_is (a *ℤ c) (a *ℤ d) (b *ℤ c) (b *ℤ d) in
        ends_high a b m n hi h.0 h.1
        (rw (*ℤ_comm a n) (ends_high c d n a hi k.0 k.1 (rw (*ℤ_comm c a) g.0) (rw (*ℤ_comm d a) g.1)))
        (rw (*ℤ_comm b n) (ends_high c d n b hi k.0 k.1 (rw (*ℤ_comm c b) g.2) (rw (*ℤ_comm d b) g.3)))

pub sum_amid : (e f : Ends) (m n : ℤ) → Amid e m → Amid f n → Amid (E.sum e f) (m +ℤ n)
sum_amid e f m n h k = let p = h.0 in let q = h.1 in let r = k.0 in let s = k.1 in (omega (arith, ints), omega (arith, ints))

-- brought to the nearest end
abbrev pub brought : Span → ℤ → ℤ
brought s m = int_min s.hi (int_max s.lo m)

pub brought_above : (s : Span) (m : ℤ) → s.lo ≤ℤ brought s m
brought_above s m = let o = s.ordered in omega (arith, ints, clamps)

pub brought_under : (s : Span) (m : ℤ) → brought s m ≤ℤ s.hi
brought_under s m = omega (arith, ints, clamps)
