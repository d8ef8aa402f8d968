-- The numbers that the sum, the difference, the product and the quotient of spans hold.
use Rattle.std.proofs.Common.{◌⊎◌, ◌↔◌, [], ◌∷◌, ℤ, pos, ◌*ℤ◌, neg_ℤ, ◌≤ℤ◌, ◌<ℤ◌, ⊎_elim, arith, lit<}
use borrow.Author.Differences.{ints}
use Rattle.numbers.specs.Numbers.{Numbers, Same, Above}
use Rattle.numbers.specs.Values as V
use Rattle.numbers.proofs.Laws as L
use Rattle.numbers.proofs.Laws.{walk}
use Rattle.numbers.proofs.Ring.{ring, ◌⊠◌, v0, v1, v2}
use Rattle.numbers.specs.Rounding.{floor, ceil, floor_by, ceil_by, least, greatest}
use Rattle.numbers.specs.Ends.{Ends, sum, opposite, difference, product, quotient}
use Rattle.numbers.specs.Ends as S
use Rattle.numbers.proofs.Rounding.{least_is, greatest_is, floor_le, le_ceil, under_floor_by, under_floor_by_neg, over_ceil_by, over_ceil_by_neg}
use Rattle.numbers.proofs.Integers.{neg_mul}

module _ (N : Numbers) where
  open N use {carrier, le as ◌≼◌, zero, one, unit, add as ◌⊕◌, mul as ◌⊗◌, neg, le_refl, le_trans, mul_comm, unit_is}

  infix 40 ◌≼◌ ◌≈◌
  infixl 60 ◌⊕◌
  infixl 70 ◌⊗◌
  abbrev ◌≈◌ : carrier → carrier → Type 0
  x ≈ y = Same ◌≼◌ x y

  abbrev int : ℤ → carrier
  int z = V.int N z

  abbrev counted : carrier → carrier
  counted x = V.counted N x

  abbrev Holds : Ends → carrier → Type 0
  Holds s x = S.Holds N s x

  -- ---- a number against a count
  pub unit_one : int (pos 65536) ⊗ unit ≈ one
  unfolding V.int
  unit_one = L.same_trans N (L.same_sym N (L.copies_is N 65536 unit)) unit_is

  many : Above ◌≼◌ (int (pos 65536)) zero
  many = L.int_positive N (omega (arith, ints))

  pub count_held : (m : ℤ) → V.counted N (V.count N m) ≈ int m
  count_held m = grw (walk, ring N (int (pos 65536) ∷ int m ∷ unit ∷ []) (v0 ⊠ (v1 ⊠ v2)) (v0 ⊠ v2 ⊠ v1) tt, unit_one, L.one_mul N (int m))

  pub count_low : (m : ℤ) (x : carrier) → (V.count N m ≼ x) ↔ (int m ≼ counted x)
  count_low m x = (
    (λ h. le_trans (count_held m).down (L.mul_mono_left N many.over h)),
    (λ h. L.mul_cancel_left N many (le_trans (count_held m).up h)),
  )

  pub count_high : (m : ℤ) (x : carrier) → (x ≼ V.count N m) ↔ (counted x ≼ int m)
  count_high m x = (
    (λ h. le_trans (L.mul_mono_left N many.over h) (count_held m).up),
    (λ h. L.mul_cancel_left N many (le_trans h (count_held m).down)),
  )

  -- ---- sums
  pub sum_holds : {s t : Ends} {x y : carrier} → Holds s x → Holds t y → Holds (sum s t) (x ⊕ y)
  sum_holds {s} {t} {x} {y} h k = record {
    low = le_trans (L.int_add N s.from t.from).up (le_trans (L.add_mono N h.low k.low) apart.down);
    high = le_trans apart.up (le_trans (L.add_mono N h.high k.high) (L.int_add N s.to t.to).down);
  }
    where
      apart : counted (x ⊕ y) ≈ counted x ⊕ counted y
      apart = L.add_mul N (int (pos 65536)) x y

  pub opposite_holds : {s : Ends} {x : carrier} → Holds s x → Holds (opposite s) (neg x)
  opposite_holds {s} {x} h = record {
    low = le_trans (L.int_neg N s.to).up (le_trans (L.neg_mono N h.high) (L.neg_mul N (int (pos 65536)) x).down);
    high = le_trans (L.neg_mul N (int (pos 65536)) x).up (le_trans (L.neg_mono N h.low) (L.int_neg N s.from).down);
  }

  pub difference_holds : {s t : Ends} {x y : carrier} → Holds s x → Holds t y → Holds (difference s t) (x ⊕ neg y)
  difference_holds h k = sum_holds h (opposite_holds k)

  -- ---- products
  -- a product with a factor between u and v lies between the products with u and with v
  ends_high : {u v x y w : carrier} → u ≼ x → x ≼ v → u ⊗ y ≼ w → v ⊗ y ≼ w → x ⊗ y ≼ w
  ends_high {u} {v} {x} {y} {w} h k p q = L.by_order N zero y (λ o. le_trans (L.mul_mono N o k) q) (λ o. le_trans (L.mul_anti N o h) p)

  ends_low : {u v x y w : carrier} → u ≼ x → x ≼ v → w ≼ u ⊗ y → w ≼ v ⊗ y → w ≼ x ⊗ y
  ends_low {u} {v} {x} {y} {w} h k p q = L.by_order N zero y (λ o. le_trans p (L.mul_mono N o h)) (λ o. le_trans q (L.mul_anti N o k))

  -- the same for an integer times a factor between two integers
  line_high : (a c d : ℤ) {m : ℤ} {y : carrier} → int c ≼ y → y ≼ int d → (a *ℤ c) ≤ℤ m → (a *ℤ d) ≤ℤ m → int a ⊗ y ≼ int m
  line_high a c d {m} {y} h k p q = le_trans (mul_comm (int a) y).up (ends_high h k (at c p) (at d q))
    where
      at : (e : ℤ) → (a *ℤ e) ≤ℤ m → int e ⊗ int a ≼ int m
      at e p = le_trans (mul_comm (int e) (int a)).up (le_trans (L.int_mul N a e).down (L.int_mono N p))

  line_low : (a c d : ℤ) {m : ℤ} {y : carrier} → int c ≼ y → y ≼ int d → m ≤ℤ (a *ℤ c) → m ≤ℤ (a *ℤ d) → int m ≼ int a ⊗ y
  line_low a c d {m} {y} h k p q = le_trans (ends_low h k (at c p) (at d q)) (mul_comm y (int a)).up
    where
      at : (e : ℤ) → m ≤ℤ (a *ℤ e) → int m ≼ int e ⊗ int a
      at e p = le_trans (L.int_mono N p) (le_trans (L.int_mul N a e).up (mul_comm (int a) (int e)).up)

  counted_mul : (x y : carrier) → counted x ⊗ counted y ≈ counted (x ⊗ y) ⊗ int (pos 65536)
  counted_mul x y = ring N (x ∷ y ∷ int (pos 65536) ∷ []) (v2 ⊠ v0 ⊠ (v2 ⊠ v1)) (v2 ⊠ (v0 ⊠ v1) ⊠ v2) tt

  pub product_holds : {s t : Ends} {x y : carrier} → Holds s x → Holds t y → Holds (product s t) (x ⊗ y)
  product_holds {s} {t} {x} {y} h k = record {
    low = L.mul_cancel N many (le_trans (L.int_mul N (floor lo 65536) (pos 65536)).down (le_trans (L.int_mono N (floor_le lo 65536 (lit< tt))) (le_trans below (counted_mul x y).up)));
    high = L.mul_cancel N many (le_trans (counted_mul x y).down (le_trans above (le_trans (L.int_mono N (le_ceil hi 65536 (lit< tt))) (L.int_mul N (ceil hi 65536) (pos 65536)).up)));
  }
    where
      a : ℤ
      a = s.from

      b : ℤ
      b = s.to

      c : ℤ
      c = t.from

      d : ℤ
      d = t.to

      lo : ℤ
      lo = least (a *ℤ c) (a *ℤ d) (b *ℤ c) (b *ℤ d)

      hi : ℤ
      hi = greatest (a *ℤ c) (a *ℤ d) (b *ℤ c) (b *ℤ d)

      below : int lo ≼ counted x ⊗ counted y
      below = let l = least_is (a *ℤ c) (a *ℤ d) (b *ℤ c) (b *ℤ d) in
          ends_low h.low h.high (line_low a c d k.low k.high l.0 l.1) (line_low b c d k.low k.high l.2 l.3)

      above : counted x ⊗ counted y ≼ int hi
      above = let g = greatest_is (a *ℤ c) (a *ℤ d) (b *ℤ c) (b *ℤ d) in
          ends_high h.low h.high (line_high a c d k.low k.high g.0 g.1) (line_high b c d k.low k.high g.2 g.3)

  -- ---- quotients
  counted_quotient : {q x y : carrier} → q ⊗ x ≈ y → counted x ⊗ counted q ≈ counted y ⊗ int (pos 65536)
  counted_quotient {q} {x} {y} e = L.same_trans N (counted_mul x q) (grw (walk, mul_comm x q, e))

  over_zero : {c : ℤ} {q : carrier} → pos 0 <ℤ c → int c ≼ q → Above ◌≼◌ q zero
  over_zero {c} {q} h k = record { over = le_trans (L.int_positive N h).over k; apart = λ l. (L.int_positive N h).apart (le_trans k l) }

  -- with a positive divisor: an integer whose products with the ends of the divisor are small enough is at most the quotient, one whose products are great enough is at least the quotient
  quotient_low : (a d m : ℤ) {c : ℤ} {q x y : carrier} → q ⊗ x ≈ y → pos 0 <ℤ c → int c ≼ counted q → counted q ≼ int d → int a ≼ counted y
      → (m *ℤ c) ≤ℤ (a *ℤ pos 65536) → (m *ℤ d) ≤ℤ (a *ℤ pos 65536) → int m ≼ counted x
  quotient_low a d m {c} e o h k g p r = L.mul_cancel N (over_zero o h) (le_trans (line_high m c d h k p r)
      (le_trans (L.int_mul N a (pos 65536)).up (le_trans (L.mul_mono N many.over g) (counted_quotient e).down)))

  quotient_high : (a d m : ℤ) {c : ℤ} {q x y : carrier} → q ⊗ x ≈ y → pos 0 <ℤ c → int c ≼ counted q → counted q ≼ int d → counted y ≼ int a
      → (a *ℤ pos 65536) ≤ℤ (m *ℤ c) → (a *ℤ pos 65536) ≤ℤ (m *ℤ d) → counted x ≼ int m
  quotient_high a d m {c} e o h k g p r = L.mul_cancel N (over_zero o h) (le_trans (counted_quotient e).up
      (le_trans (L.mul_mono N many.over g) (le_trans (L.int_mul N a (pos 65536)).down (line_low m c d h k p r))))

  pub quotient_holds : {s t : Ends} {q x y : carrier} → (pos 0 <ℤ t.from) ⊎ (t.to <ℤ pos 0) → Holds s y → Holds t q → q ⊗ x ≈ y → Holds (quotient s t) x
  quotient_holds {s} {t} {q} {x} {y} w h k e = ⊎_elim above below w
    where
      open s use {from as a, to as b}
      open t use {from as c, to as d}

      A : ℤ
      A = a *ℤ pos 65536

      B : ℤ
      B = b *ℤ pos 65536

      order : c ≤ℤ d
      order = L.int_back N (le_trans k.low k.high)

      above : pos 0 <ℤ c → Holds (quotient s t) x
      above o =
          let r = order in
          let o' : pos 0 <ℤ d = omega (arith, ints) in
          let l = least_is (floor_by A c) (floor_by A d) (floor_by B c) (floor_by B d) in
          let g = greatest_is (ceil_by A c) (ceil_by A d) (ceil_by B c) (ceil_by B d) in
          record {
            low = quotient_low a d _ e o k.low k.high h.low (under_floor_by A o l.0) (under_floor_by A o' l.1);
            high = quotient_high b d _ e o k.low k.high h.high (over_ceil_by B o g.2) (over_ceil_by B o' g.3);
          }

      below : d <ℤ pos 0 → Holds (quotient s t) x
      below o =
          let r = order in
          let o' : c <ℤ pos 0 = omega (arith, ints) in
          let n : pos 0 <ℤ neg_ℤ d = omega (arith, ints) in
          let l = least_is (floor_by A c) (floor_by A d) (floor_by B c) (floor_by B d) in
          let g = greatest_is (ceil_by A c) (ceil_by A d) (ceil_by B c) (ceil_by B d) in
          let h' = opposite_holds h in
          let k' = opposite_holds k in
          let e' = L.same_trans N (L.mul_neg N q x) (L.neg_same N e) in
          record {
            low = quotient_low (neg_ℤ b) (neg_ℤ c) _ e' n k'.low k'.high h'.low (rw neg_mul (under_floor_by_neg B o l.3)) (rw neg_mul (under_floor_by_neg B o' l.2));
            high = quotient_high (neg_ℤ a) (neg_ℤ c) _ e' n k'.low k'.high h'.high (rw neg_mul (over_ceil_by_neg A o g.1)) (rw neg_mul (over_ceil_by_neg A o' g.0));
          }

-- the number lies between the ends exactly when it lies between the numbers that they stand for
pub holds_is : (N : Numbers) (s : Ends) (x : N.carrier) → S.Holds N s x ↔ (N.le (V.count N s.from) x × N.le x (V.count N s.to))
holds_is N s x = (
  (λ h. ((count_low N s.from x).1 h.low, (count_high N s.to x).1 h.high)),
  (λ h. record { low = (count_low N s.from x).0 h.0; high = (count_high N s.to x).0 h.1 }),
)
