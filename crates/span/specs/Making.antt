-- Counts, and the closed span of two ends.
use Rattle.std.specs.Prelude.{◌≡◌, Bool, true, false, ◌&&◌, ℤ, pos, negsuc, ◌≤ℤ◌, ◌<ℤ◌, Some, None, Option, int_le, int_lt, refl}
use Rattle.std.proofs.Common.{arith}
use Rattle.std.proofs.lemmas.Int.{by_lt_z, ints}
use Rattle.span.specs.declared.shape.Span.{Span}

-- a count: a whole number from −2147483647 to 2147483647
abbrev pub Count : ℤ → Type 0
Count z = (negsuc 2147483646 ≤ℤ z) × (z ≤ℤ pos 2147483647)

abbrev pub is_count : ℤ → Bool
is_count z = int_le (negsuc 2147483646) z && int_le z (pos 2147483647)

-- two numbers are the ends of a closed span
pub record Fit (lo hi : ℤ) : Type 0 where
  pub ordered : lo ≤ℤ hi
  pub least : negsuc 2147483646 ≤ℤ lo
  pub most : hi ≤ℤ pos 2147483647

-- the order of whole numbers is decided
pub above_it : {a b : ℤ} → int_lt b a ≡ true → ¬ (a ≤ℤ b)
above_it e h = omega (arith, ints)

pub at_most_it : {a b : ℤ} → int_lt b a ≡ false → a ≤ℤ b
at_most_it e = omega (arith, ints)

pub over_it : {a b : ℤ} → ¬ (a ≤ℤ b) → b <ℤ a
over_it {a} {b} n = by_lt_z b a (λ h. h) (λ h. absurd (n h))

abbrev pub decided : {a b : ℤ} (t : Bool) → int_lt b a ≡ t → Dec (a ≤ℤ b)
decided true e = no (above_it e)
decided false e = yes (at_most_it e)

abbrev pub at_most? : (a b : ℤ) → Dec (a ≤ℤ b)
at_most? a b = decided (int_lt b a) refl

abbrev pub all? : {A B C : Type 0} → Dec A → Dec B → Dec C → Dec (A × B × C)
all? (yes a) (yes b) (yes c) = yes (a, b, c)
all? (yes a) (yes b) (no c) = no (λ h. c h.2)
all? (yes a) (no b) c = no (λ h. b h.1)
all? (no a) b c = no (λ h. a h.0)

abbrev pub fitting : {a b : ℤ} → Dec ((a ≤ℤ b) × (negsuc 2147483646 ≤ℤ a) × (b ≤ℤ pos 2147483647)) → Dec (Fit a b)
fitting (yes h) = yes (record { ordered = h.0; least = h.1; most = h.2 })
fitting (no n) = no (λ f. n (f.ordered, f.least, f.most))

abbrev pub fit? : (a b : ℤ) → Dec (Fit a b)
fit? a b = fitting (all? (at_most? a b) (at_most? (negsuc 2147483646) a) (at_most? b (pos 2147483647)))

-- the closed span of two ends that fit
abbrev pub closed : (a b : ℤ) → Fit a b → Span
closed a b f = record { lo = a; hi = b; ordered = f.ordered; least = f.least; most = f.most }

abbrev pub making : (a b : ℤ) → Dec (Fit a b) → Option Span
making a b (yes f) = Some (closed a b f)
making a b (no n) = None

-- the closed span of two ends; none if they are crossed or no counts
abbrev pub made : ℤ → ℤ → Option Span
made a b = making a b (fit? a b)
