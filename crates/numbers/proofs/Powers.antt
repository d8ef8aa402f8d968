-- Powers of a number.
use Rattle.std.proofs.Common.{ℕ, suc, ◌+◌, ◌^◌, ℤ, pos}
use Prim.Native.Nat as Nat
use native.Mathlib.Nat as NatL
use lib.IntN.{pow}
use lib.IntN as IntN
use Rattle.numbers.specs.Numbers.{Numbers, Same}
use Rattle.numbers.specs.Values as V
use Rattle.numbers.proofs.Laws as L
use Rattle.numbers.proofs.Laws.{walk}

module _ (N : Numbers) where
  open N use {carrier, le as ◌≼◌, one, mul as ◌⊗◌, mul_one, mul_assoc}

  infix 40 ◌≼◌ ◌≈◌
  infixl 70 ◌⊗◌
  abbrev ◌≈◌ : carrier → carrier → Type 0
  x ≈ y = Same ◌≼◌ x y

  abbrev raised : carrier → ℕ → carrier
  raised x n = V.raised N x n

  pub raised_same : {x y : carrier} (n : ℕ) → x ≈ y → raised x n ≈ raised y n
  unfolding V.raised
  raised_same Nat.zero e = L.same_refl N one
  raised_same (suc n) e = L.mul_cong N (raised_same n e) e

  pub raised_add : (x : carrier) (m n : ℕ) → raised x (m + n) ≈ raised x m ⊗ raised x n
  unfolding V.raised
  raised_add x m Nat.zero = rw NatL.add-zero (L.same_sym N (mul_one (raised x m)))
  raised_add x m (suc n) = rw NatL.add-suc (grw (walk, raised_add x m n, mul_assoc (raised x m) (raised x n) x))

  pub raised_mul : (x y : carrier) (n : ℕ) → raised (x ⊗ y) n ≈ raised x n ⊗ raised y n
  unfolding V.raised
  raised_mul x y Nat.zero = L.same_sym N (mul_one one)
  raised_mul x y (suc n) = grw (walk, raised_mul x y n, L.mul_swap N (raised x n) (raised y n) x y)

  -- the powers of an integer, and of a natural, are what they are among the numbers
  pub int_pow : (z : ℤ) (n : ℕ) → V.int N (pow z n) ≈ raised (V.int N z) n
  unfolding V.raised pow IntN.one
  int_pow z Nat.zero = L.int_one N
  int_pow z (suc n) = grw (walk, L.int_mul N (pow z n) z, int_pow z n)

  pub nat_pow : (d n : ℕ) → V.int N (pos (d ^ n)) ≈ raised (V.int N (pos d)) n
  unfolding V.raised
  nat_pow d Nat.zero = rw NatL.pow-zero (L.int_one N)
  nat_pow d (suc n) = rw NatL.pow-suc (grw (walk, L.int_mul N (pos (d ^ n)) (pos d), nat_pow d n))
