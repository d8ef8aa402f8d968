-- The integers, the counts of units and the powers among the numbers.
use Rattle.std.specs.Prelude.{ℕ, suc, ℤ, pos, negsuc}
use Prim.Native.Nat as Nat
use Rattle.numbers.specs.Numbers.{Numbers, Same, copies}

module _ (N : Numbers) where
  open N use {carrier, le, zero, one, unit, add, mul, neg}

  -- x and y are equal numbers
  infix 40 ◌≈◌
  abbrev pub ◌≈◌ : carrier → carrier → Type 0
  x ≈ y = Same le x y

  -- the natural number n, and the integer z, as numbers
  unfoldable pub nat : ℕ → carrier
  nat n = copies zero add n one

  unfoldable pub int : ℤ → carrier
  int (pos n) = nat n
  int (negsuc n) = neg (nat (suc n))

  -- the number that m units make, m / 65536
  abbrev pub count : ℤ → carrier
  count m = mul (int m) unit

  -- how many units make x, 65536 · x
  abbrev pub counted : carrier → carrier
  counted x = mul (int (pos 65536)) x

  -- x, multiplied n times
  unfoldable pub raised : carrier → ℕ → carrier
  raised x Nat.zero = one
  raised x (suc n) = mul (raised x n) x
