-- Products of two counts fit 64 bits, and can be negated.
use Rattle.std.proofs.Common.{ℕ, suc, ◌*◌, ◌^◌, ◌≤◌, ℤ, pos, negsuc, ◌*ℤ◌, ◌≤ℤ◌, mul-le-mul, arith, w32, w64, SFits}
use Rattle.std.proofs.lemmas.Int.{ints}

bound : (m n : ℕ) → m ≤ 2 ^ 31 → n ≤ 2 ^ 31 → m * n ≤ 2 ^ 62
bound m n h k = mul-le-mul {n₂ = 2 ^ 31} {m₂ = 2 ^ 31} h k

pub product_fits : (a b : ℤ) → SFits w32 a → SFits w32 b → SFits w64 (a *ℤ b) × (negsuc 4611686018427387903 ≤ℤ (a *ℤ b))
product_fits (pos m) (pos n) f g = let h = bound m n (omega (arith, ints)) (omega (arith, ints)) in (omega (arith, ints), omega (arith, ints))
product_fits (pos m) (negsuc n) f g = let h = bound m (suc n) (omega (arith, ints)) (omega (arith, ints)) in (omega (arith, ints), omega (arith, ints))
product_fits (negsuc m) (pos n) f g = let h = bound (suc m) n (omega (arith, ints)) (omega (arith, ints)) in (omega (arith, ints), omega (arith, ints))
product_fits (negsuc m) (negsuc n) f g = let h = bound (suc m) (suc n) (omega (arith, ints)) (omega (arith, ints)) in (omega (arith, ints), omega (arith, ints))
