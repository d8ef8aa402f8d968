-- What follows from the laws of numbers, up to the embedding of the integers.
use Rattle.std.proofs.Common.{◌≡◌, ℕ, suc, ◌+◌, ◌-◌, ◌*◌, ◌≤◌, ℤ, pos, negsuc, ◌+ℤ◌, ◌*ℤ◌, neg_ℤ, ◌≤ℤ◌, ◌<ℤ◌, ap, subst, arith}
use Prim.Native.Nat as Nat
use native.Mathlib.Nat as NatL
use lib.Signed.{clash_ℤ}
use borrow.Author.Differences.{ints, up, down, sum_is_lem, product_is, neg_is, le_out}
use Rattle.std.proofs.lemmas.Int.{by_lt_z}
use Rattle.numbers.specs.Numbers.{Numbers, Above, copies}
use Rattle.numbers.specs.Values as V

module _ (N : Numbers) where
  open N use {carrier, le as ◌≼◌, zero, one, unit, add as ◌⊕◌, mul as ◌⊗◌, neg, le_refl, le_trans, le_total, le_stable, le_add, one_positive, mul_positive, add_assoc, add_comm, add_zero, add_neg, mul_same, mul_assoc, mul_comm, mul_one, mul_add, unit_is}

  infix 40 ◌≼◌ ◌≈◌
  infixl 60 ◌⊕◌
  infixl 70 ◌⊗◌
  abbrev ◌≈◌ : carrier → carrier → Type 0
  x ≈ y = V.◌≈◌ N x y

  abbrev nat : ℕ → carrier
  nat n = V.nat N n

  abbrev int : ℤ → carrier
  int z = V.int N z

  pub same_refl : (x : carrier) → x ≈ x
  same_refl x = record { up = le_refl x; down = le_refl x }

  pub same_sym : {x y : carrier} → x ≈ y → y ≈ x
  same_sym e = record { up = e.down; down = e.up }

  pub same_trans : {x y z : carrier} → x ≈ y → y ≈ z → x ≈ z
  same_trans e f = record { up = le_trans e.up f.up; down = le_trans f.down e.down }

  pub same_of : {x y : carrier} → x ≡ y → x ≈ y
  same_of {x} e = subst (λ y. x ≈ y) e (same_refl x)

  -- ---- sums
  pub add_mono : {x y u v : carrier} → x ≼ y → u ≼ v → x ⊕ u ≼ y ⊕ v
  add_mono {x} {y} {u} {v} h k = le_trans (le_add u h) (le_trans (add_comm y u).up (le_trans (le_add y k) (add_comm v y).up))

  pub add_same : {x y u v : carrier} → x ≈ y → u ≈ v → x ⊕ u ≈ y ⊕ v
  add_same e f = record { up = add_mono e.up f.up; down = add_mono e.down f.down }

  pub mul_cong : {x y u v : carrier} → x ≈ y → u ≈ v → x ⊗ u ≈ y ⊗ v
  mul_cong {x} {y} {u} {v} e f = same_trans (mul_same u e) (same_trans (mul_comm y u) (same_trans (mul_same y f) (mul_comm v y)))

  -- the walk of `grw` under sums and products, and, below, under negation too
  pub ruleset sums = (same_trans, same_refl, add_same, mul_cong)

  pub zero_add : (x : carrier) → zero ⊕ x ≈ x
  zero_add x = same_trans (add_comm zero x) (add_zero x)

  pub add_swap : (x y u v : carrier) → (x ⊕ y) ⊕ (u ⊕ v) ≈ (x ⊕ u) ⊕ (y ⊕ v)
  add_swap x y u v = grw (sums, add_assoc x y (u ⊕ v), same_sym (add_assoc y u v), add_comm y u, add_assoc u y v, same_sym (add_assoc x u (y ⊕ v)))

  pub add_left : (x y z : carrier) → x ⊕ (y ⊕ z) ≈ y ⊕ (x ⊕ z)
  add_left x y z = grw (sums, same_sym (add_assoc x y z), add_comm x y, add_assoc y x z)

  pub mul_left : (x y z : carrier) → x ⊗ (y ⊗ z) ≈ y ⊗ (x ⊗ z)
  mul_left x y z = grw (sums, same_sym (mul_assoc x y z), mul_comm x y, mul_assoc y x z)

  pub mul_swap : (x y u v : carrier) → (x ⊗ y) ⊗ (u ⊗ v) ≈ (x ⊗ u) ⊗ (y ⊗ v)
  mul_swap x y u v = grw (sums, mul_assoc x y (u ⊗ v), mul_left y u v, same_sym (mul_assoc x u (y ⊗ v)))

  pub add_back : (x z : carrier) → (x ⊕ z) ⊕ neg z ≈ x
  add_back x z = grw (sums, add_assoc x z (neg z), add_neg z, add_zero x)

  pub add_cancel : {x y : carrier} (z : carrier) → x ⊕ z ≼ y ⊕ z → x ≼ y
  add_cancel {x} {y} z h = le_trans (add_back x z).down (le_trans (le_add (neg z) h) (add_back y z).up)

  pub add_cancel_same : {x y : carrier} (z : carrier) → x ⊕ z ≈ y ⊕ z → x ≈ y
  add_cancel_same z e = record { up = add_cancel z e.up; down = add_cancel z e.down }

  pub neg_unique : {x y : carrier} → x ⊕ y ≈ zero → y ≈ neg x
  neg_unique {x} {y} e = add_cancel_same x (grw (sums, add_comm y x, e, same_sym (add_neg x), add_comm x (neg x)))

  pub neg_same : {x y : carrier} → x ≈ y → neg x ≈ neg y
  neg_same {x} {y} e = neg_unique (grw (sums, same_sym e, add_neg x))

  pub ruleset walk = (sums, neg_same)

  pub neg_add : (x y : carrier) → neg (x ⊕ y) ≈ neg x ⊕ neg y
  neg_add x y = same_sym (neg_unique (grw (walk, add_swap x y (neg x) (neg y), add_neg x, add_neg y, add_zero zero)))

  pub neg_neg : (x : carrier) → neg (neg x) ≈ x
  neg_neg x = same_sym (neg_unique (grw (walk, add_comm (neg x) x, add_neg x)))

  pub neg_zero : neg zero ≈ zero
  neg_zero = same_sym (neg_unique (add_zero zero))

  -- from u + e ≤ v + d: u - d ≤ v - e
  pub sub_mono : {u v d e : carrier} → u ⊕ e ≼ v ⊕ d → u ⊕ neg d ≼ v ⊕ neg e
  sub_mono {u} {v} {d} {e} h = add_cancel (d ⊕ e) (le_trans left.up (le_trans h right.down))
    where
      left : (u ⊕ neg d) ⊕ (d ⊕ e) ≈ u ⊕ e
      left = grw (walk, add_assoc u (neg d) (d ⊕ e), same_sym (add_assoc (neg d) d e), add_comm (neg d) d, add_neg d, zero_add e)

      right : (v ⊕ neg e) ⊕ (d ⊕ e) ≈ v ⊕ d
      right = grw (walk, add_assoc v (neg e) (d ⊕ e), add_comm (neg e) (d ⊕ e), add_back d e)

  pub sub_same : {u v d e : carrier} → u ⊕ e ≈ v ⊕ d → u ⊕ neg d ≈ v ⊕ neg e
  sub_same {u} {v} {d} {e} h = record { up = sub_mono h.up; down = sub_mono h.down }

  pub neg_mono : {x y : carrier} → x ≼ y → neg y ≼ neg x
  neg_mono {x} {y} h = le_trans (zero_add (neg y)).down (le_trans (sub_mono (le_trans (zero_add x).up (le_trans h (zero_add y).down))) (zero_add (neg x)).up)

  -- ---- products
  pub mul_zero : (x : carrier) → zero ⊗ x ≈ zero
  mul_zero x = add_cancel_same (zero ⊗ x) (grw (walk, same_sym (mul_add zero zero x), add_zero zero, same_sym (zero_add (zero ⊗ x))))

  pub mul_neg : (x y : carrier) → neg x ⊗ y ≈ neg (x ⊗ y)
  mul_neg x y = neg_unique (grw (walk, same_sym (mul_add x (neg x) y), add_neg x, mul_zero y))

  pub add_mul : (x y z : carrier) → x ⊗ (y ⊕ z) ≈ x ⊗ y ⊕ x ⊗ z
  add_mul x y z = grw (walk, mul_comm x (y ⊕ z), mul_add y z x, mul_comm y x, mul_comm z x)

  pub neg_mul : (x y : carrier) → x ⊗ neg y ≈ neg (x ⊗ y)
  neg_mul x y = same_trans (mul_comm x (neg y)) (same_trans (mul_neg y x) (neg_same (mul_comm y x)))

  pub one_mul : (x : carrier) → one ⊗ x ≈ x
  one_mul x = same_trans (mul_comm one x) (mul_one x)

  -- (x - y)(u - v) = (xu + yv) - (xv + yu)
  pub sub_mul : (x y u v : carrier) → (x ⊕ neg y) ⊗ (u ⊕ neg v) ≈ (x ⊗ u ⊕ y ⊗ v) ⊕ neg (x ⊗ v ⊕ y ⊗ u)
  sub_mul x y u v = grw (
    walk,
    add_mul (x ⊕ neg y) u (neg v),
    neg_mul (x ⊕ neg y) v,
    mul_add x (neg y) u,
    mul_neg y u,
    mul_add x (neg y) v,
    mul_neg y v,
    neg_add (x ⊗ v) (neg (y ⊗ v)),
    neg_neg (y ⊗ v),
    add_comm (neg (x ⊗ v)) (y ⊗ v),
    add_swap (x ⊗ u) (neg (y ⊗ u)) (y ⊗ v) (neg (x ⊗ v)),
    add_comm (neg (y ⊗ u)) (neg (x ⊗ v)),
    same_sym (neg_add (x ⊗ v) (y ⊗ u)),
  )

  -- ---- the natural numbers among them
  pub nat_suc : (n : ℕ) → nat (suc n) ≈ one ⊕ nat n
  unfolding V.nat copies
  nat_suc n = same_refl (one ⊕ nat n)

  pub nat_zero : nat 0 ≈ zero
  unfolding V.nat copies
  nat_zero = same_refl zero

  pub nat_add : (m n : ℕ) → nat (m + n) ≈ nat m ⊕ nat n
  nat_add Nat.zero n = rw NatL.zero-add (grw (walk, same_sym (zero_add (nat n)), same_sym nat_zero))
  nat_add (suc m) n = rw NatL.suc-add (grw (walk, nat_suc (m + n), nat_add m n, same_sym (add_assoc one (nat m) (nat n)), same_sym (nat_suc m)))

  pub copies_is : (n : ℕ) (x : carrier) → copies zero ◌⊕◌ n x ≈ nat n ⊗ x
  unfolding copies
  copies_is Nat.zero x = grw (walk, same_sym (mul_zero x), same_sym nat_zero)
  copies_is (suc n) x = grw (walk, copies_is n x, ← same_sym (nat_suc n), ← same_sym (mul_add one (nat n) x), ← same_sym (one_mul x))

  pub nat_mul : (m n : ℕ) → nat (m * n) ≈ nat m ⊗ nat n
  nat_mul Nat.zero n = rw NatL.zero-mul (grw (walk, nat_zero, same_sym (mul_zero (nat n)), same_sym nat_zero))
  nat_mul (suc m) n = rw NatL.suc-mul (grw (walk, nat_add (m * n) n, nat_mul m n, add_comm (nat m ⊗ nat n) (nat n), ← same_sym (nat_suc m), ← same_sym (mul_add one (nat m) (nat n)), ← same_sym (one_mul (nat n))))

  pub nat_positive : (n : ℕ) → zero ≼ nat n
  nat_positive Nat.zero = nat_zero.down
  nat_positive (suc n) = le_trans (zero_add zero).down (le_trans (add_mono one_positive.over (nat_positive n)) (nat_suc n).down)

  pub nat_mono : {m n : ℕ} → m ≤ n → nat m ≼ nat n
  nat_mono {m} {n} h = let e : n ≡ m + (n - m) = omega arith in
      rw e (le_trans (add_zero (nat m)).down (le_trans (add_mono (le_refl (nat m)) (nat_positive (n - m))) (nat_add m (n - m)).down))

  -- ---- the integers among them
  -- an integer is the difference of its two parts
  pub int_parts : (z : ℤ) → int z ≈ nat (up z) ⊕ neg (nat (down z))
  unfolding V.int
  int_parts (pos n) = grw (walk, same_sym (add_zero (nat n)), same_sym neg_zero, same_sym nat_zero)
  int_parts (negsuc n) = grw (walk, same_sym (zero_add (neg (nat (suc n)))), same_sym nat_zero)

  -- an equation of naturals, and an order, carried over
  regroup : (m n p q : ℕ) → m + n ≡ p + q → nat m ⊕ nat n ≈ nat p ⊕ nat q
  regroup m n p q e = same_trans (same_sym (nat_add m n)) (same_trans (same_of (ap nat e)) (nat_add p q))

  pub int_add : (a b : ℤ) → int (a +ℤ b) ≈ int a ⊕ int b
  int_add a b = same_trans (int_parts (a +ℤ b)) (same_trans (sub_same (regroup (up (a +ℤ b)) (down a + down b) (up a + up b) (down (a +ℤ b)) (omega (arith, sum_is_lem a b)))) (same_sym parts))
    where
      parts : int a ⊕ int b ≈ nat (up a + up b) ⊕ neg (nat (down a + down b))
      parts = grw (walk, int_parts a, int_parts b, add_swap (nat (up a)) (neg (nat (down a))) (nat (up b)) (neg (nat (down b))), same_sym (nat_add (up a) (up b)), same_sym (neg_add (nat (down a)) (nat (down b))), same_sym (nat_add (down a) (down b)))

  pub int_neg : (a : ℤ) → int (neg_ℤ a) ≈ neg (int a)
  int_neg a = grw (walk, int_parts (neg_ℤ a), same_of (ap nat (neg_is a).0), same_of (ap nat (neg_is a).1), add_comm (nat (down a)) (neg (nat (up a))), ← same_sym (int_parts a), ← same_sym (neg_add (nat (up a)) (neg (nat (down a)))), ← same_sym (neg_neg (nat (down a))))

  pub int_mul : (a b : ℤ) → int (a *ℤ b) ≈ int a ⊗ int b
  int_mul a b = grw (
    walk,
    int_parts (a *ℤ b),
    same_of (ap nat (product_is a b).0),
    same_of (ap nat (product_is a b).1),
    nat_add (up a * up b) (down a * down b),
    nat_add (up a * down b) (down a * up b),
    nat_mul (up a) (up b),
    nat_mul (down a) (down b),
    nat_mul (up a) (down b),
    nat_mul (down a) (up b),
    same_sym (sub_mul (nat (up a)) (nat (down a)) (nat (up b)) (nat (down b))),
    ← same_sym (int_parts a),
    ← same_sym (int_parts b),
  )

  pub int_mono : {a b : ℤ} → a ≤ℤ b → int a ≼ int b
  int_mono {a} {b} h = le_trans (int_parts a).up (le_trans (sub_mono (le_trans (nat_add (up a) (down b)).down (le_trans (nat_mono (le_out a b h)) (nat_add (up b) (down a)).up))) (int_parts b).down)

  pub int_one : int (pos 1) ≈ one
  unfolding V.int
  int_one = grw (walk, nat_suc 0, nat_zero, add_zero one)

  pub int_zero : int (pos 0) ≈ zero
  unfolding V.int
  int_zero = nat_zero

  pub int_back : {a b : ℤ} → int a ≼ int b → a ≤ℤ b
  int_back {a} {b} h = by_lt_z b a (λ l. absurd (one_positive.apart (add_cancel (int b) (more l)))) (λ k. k)
    where
      more : b <ℤ a → one ⊕ int b ≼ zero ⊕ int b
      more l = le_trans (add_mono int_one.down (le_refl (int b))) (le_trans (int_add (pos 1) b).down (le_trans (int_mono (omega (arith, ints))) (le_trans h (zero_add (int b)).down)))

  -- ---- cases, and products in the order
  -- a fact of the order may be proved by cases on the order
  pub by_order : (x y : carrier) {u v : carrier} → (x ≼ y → u ≼ v) → (y ≼ x → u ≼ v) → u ≼ v
  by_order x y f g = le_stable (λ n. n (g (le_total (λ h. n (f h)))))

  pub le_sub : {x y : carrier} → x ≼ y → zero ≼ y ⊕ neg x
  le_sub {x} {y} h = le_trans (add_neg x).down (le_add (neg x) h)

  pub sub_le : {x y : carrier} → zero ≼ y ⊕ neg x → x ≼ y
  sub_le {x} {y} h = add_cancel (neg x) (le_trans (add_neg x).up h)

  pub mul_nonneg : {x y : carrier} → zero ≼ x → zero ≼ y → zero ≼ x ⊗ y
  mul_nonneg {x} {y} h k = le_stable (λ n. n (mul_positive
      (record { over = h; apart = λ l. n (le_trans (mul_zero y).down (mul_same y (record { up = l; down = h })).down) })
      (record { over = k; apart = λ l. n (le_trans (mul_zero x).down (le_trans (mul_same x (record { up = l; down = k })).down (mul_comm y x).up)) })).over)

  sub_times : (x y z : carrier) → (y ⊕ neg x) ⊗ z ≈ y ⊗ z ⊕ neg (x ⊗ z)
  sub_times x y z = grw (walk, mul_add y (neg x) z, mul_neg x z)

  pub mul_mono : {x y z : carrier} → zero ≼ z → x ≼ y → x ⊗ z ≼ y ⊗ z
  mul_mono {x} {y} {z} k h = sub_le (le_trans (mul_nonneg (le_sub h) k) (sub_times x y z).up)

  pub mul_anti : {x y z : carrier} → z ≼ zero → x ≼ y → y ⊗ z ≼ x ⊗ z
  mul_anti {x} {y} {z} k h = le_trans (neg_neg (y ⊗ z)).down (le_trans (neg_mono
      (le_trans (neg_mul x z).down (le_trans (mul_mono (le_trans neg_zero.down (neg_mono k)) h) (neg_mul y z).up))) (neg_neg (x ⊗ z)).up)

  pub mul_cancel : {x y z : carrier} → Above ◌≼◌ z zero → x ⊗ z ≼ y ⊗ z → x ≼ y
  mul_cancel {x} {y} {z} p h = le_stable (λ n. (mul_positive
      (record { over = le_sub (le_total n); apart = λ l. n (add_cancel (neg y) (le_trans l (add_neg y).down)) }) p).apart
      (le_trans (sub_times y x z).up (le_trans (le_add (neg (y ⊗ z)) h) (add_neg (y ⊗ z)).up)))

  pub mul_mono_left : {x y z : carrier} → zero ≼ z → x ≼ y → z ⊗ x ≼ z ⊗ y
  mul_mono_left {x} {y} {z} k h = le_trans (mul_comm z x).up (le_trans (mul_mono k h) (mul_comm y z).up)

  pub mul_cancel_left : {x y z : carrier} → Above ◌≼◌ z zero → z ⊗ x ≼ z ⊗ y → x ≼ y
  mul_cancel_left {x} {y} {z} p h = mul_cancel p (le_trans (mul_comm x z).up (le_trans h (mul_comm z y).up))

  pub int_positive : {a : ℤ} → pos 0 <ℤ a → Above ◌≼◌ (int a) zero
  int_positive {a} h = record { over = le_trans int_zero.down (int_mono (omega (arith, ints))); apart = λ l. clash_ℤ h (int_back (le_trans l int_zero.down)) }
