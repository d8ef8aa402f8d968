-- Numbers in four bytes, there and back.
use Rattle.std.proofs.Common.{◌≡◌, ℕ, ◌+◌, ◌*◌, ◌/◌, ◌%◌, ◌<◌, ◌≤◌, List, [], ◌∷◌, ◌++◌, length, drop, ℤ, pos, negsuc, sym, ap, ◌∙◌, arith, w32, SFits, to_z, of_z}
use native.Mathlib.Nat.{div-div-eq-div-mul}
use borrow.Author.Differences.{ints}
use Rattle.std.proofs.lemmas.Int.{to_z-of_z, of_z-to_z}
use Rattle.std.specs.List.{AllByRecursion}
use Rattle.span.specs.Making.{Count}
use Rattle.format.specs.Theorem.{Byte}
use Rattle.format.specs.Written.{four, count_bytes}
use Rattle.format.specs.Reading.{number_in, count_in}

split : (v : ℕ) → v ≡ v / 256 * 256 + v % 256
split v = omega arith

small : (v : ℕ) → v < 256 → v % 256 ≡ v
small v h = omega arith

rejoined : (v q r s i j k : ℕ) → v ≡ q * 256 + i → q ≡ r * 256 + j → r ≡ s * 256 + k → s * 16777216 + k * 65536 + j * 256 + i ≡ v
rejoined v q r s i j k e f g = omega arith

pub number_four : (v : ℕ) (rest : List ℕ) → v < 4294967296 → number_in (four v ++ rest) ≡ v
number_four v rest h =
    let a : v / 65536 ≡ v / 256 / 256 = sym (div-div-eq-div-mul v 256 256) in
    let b : v / 16777216 ≡ v / 65536 / 256 = sym (div-div-eq-div-mul v 65536 256) in
    let e : v ≡ v / 256 * 256 + v % 256 = omega arith in
    let f : v / 256 ≡ v / 65536 * 256 + v / 256 % 256 = rw a (split (v / 256)) in
    let g : v / 65536 ≡ v / 16777216 * 256 + v / 65536 % 256 = rw b (split (v / 65536)) in
    let s : v / 16777216 % 256 ≡ v / 16777216 = small (v / 16777216) (omega arith) in
    rw s (rejoined v (v / 256) (v / 65536) (v / 16777216) (v % 256) (v / 256 % 256) (v / 65536 % 256) e f g)

pub four_bytes : (v : ℕ) → AllByRecursion Byte (four v)
four_bytes v = (omega arith, (omega arith, (omega arith, (omega arith, tt))))

count_fits : (z : ℤ) → Count z → SFits w32 z
count_fits (pos n) h = record { sfits = omega (arith, ints, h.0, h.1) }
count_fits (negsuc n) h = record { sfits = omega (arith, ints, h.0, h.1) }

of_z_below : (z : ℤ) → Count z → of_z w32 z < 4294967296
of_z_below (pos n) h = omega (arith, ints, h.0, h.1)
of_z_below (negsuc n) h = omega (arith, ints, h.0, h.1)

pub count_there : (z : ℤ) (rest : List ℕ) → Count z → count_in (count_bytes z ++ rest) ≡ z
count_there z rest h = ap (to_z w32) (number_four (of_z w32 z) rest (of_z_below z h)) ∙ to_z-of_z w32 z (count_fits z h)

pub four_number : (a b c d : ℕ) (rest : List ℕ) → Byte a → Byte b → Byte c → Byte d → four (number_in (a ∷ b ∷ c ∷ d ∷ rest)) ≡ a ∷ b ∷ c ∷ d ∷ []
four_number a b c d rest p q r s =
    let n : ℕ = a * 16777216 + b * 65536 + c * 256 + d in
    let e : n / 16777216 % 256 ≡ a = omega arith in
    let f : n / 65536 % 256 ≡ b = omega arith in
    let g : n / 256 % 256 ≡ c = omega arith in
    let h : n % 256 ≡ d = omega arith in
    rw (e, f, g, h)

pub number_below : (a b c d : ℕ) (rest : List ℕ) → Byte a → Byte b → Byte c → Byte d → number_in (a ∷ b ∷ c ∷ d ∷ rest) < 4294967296
number_below a b c d rest p q r s = omega arith

-- the first four bytes are those of the number, or of the count, in them
pub four_of : (xs : List ℕ) → AllByRecursion Byte xs → 4 ≤ length xs → xs ≡ four (number_in xs) ++ drop 4 xs
four_of [] h l = absurd (omega arith)
four_of (a ∷ []) h l = absurd (omega arith)
four_of (a ∷ b ∷ []) h l = absurd (omega arith)
four_of (a ∷ b ∷ c ∷ []) h l = absurd (omega arith)
four_of (a ∷ b ∷ c ∷ d ∷ xs) h l = ap (λ (ys : List ℕ). ys ++ xs) (sym (four_number a b c d xs h.0 h.1.0 h.1.1.0 h.1.1.1.0))

pub count_of : (xs : List ℕ) → AllByRecursion Byte xs → 4 ≤ length xs → xs ≡ count_bytes (count_in xs) ++ drop 4 xs
count_of [] h l = absurd (omega arith)
count_of (a ∷ []) h l = absurd (omega arith)
count_of (a ∷ b ∷ []) h l = absurd (omega arith)
count_of (a ∷ b ∷ c ∷ []) h l = absurd (omega arith)
count_of (a ∷ b ∷ c ∷ d ∷ xs) h l =
    ap (λ (ys : List ℕ). ys ++ xs)
    (sym (four_number a b c d xs h.0 h.1.0 h.1.1.0 h.1.1.1.0)
    ∙ ap four (sym (of_z-to_z w32 (number_in (a ∷ b ∷ c ∷ d ∷ xs)) (number_below a b c d xs h.0 h.1.0 h.1.1.0 h.1.1.1.0))))
