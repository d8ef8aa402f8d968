-- Terms of polynomials, with counts for coefficients.
use Rattle.std.specs.Prelude.{ℕ, ◌+◌, ◌≤◌, List, [], ◌∷◌, ℤ}

-- coefficient · x₁ ^ e₁ · … · xₙ ^ eₙ
pub record Term : Type 0 where
  pub coefficient : ℤ
  pub exponents : List ℕ

abbrev pub degree : List ℕ → ℕ
degree [] = 0
degree (e ∷ es) = e + degree es

-- each term has degree at most 4
unfoldable pub Small : List Term → Type 0
Small [] = Unit {0}
Small (t ∷ ts) = (degree t.exponents ≤ 4) × Small ts
