-- Whether two boxes are the same is decided.
use Rattle.std.specs.Prelude.{◌≡◌, ℕ, List, [], ◌∷◌, refl}
use Rattle.std.proofs.Common.{ap, ap₂, arith}
use Rattle.std.proofs.Math.Decide.{ℕ_discrete}
use Rattle.std.proofs.Math.IntN.{ℤ_discrete}
use Rattle.span.specs.declared.shape.Span.{Span}
use Rattle.span.specs.declared.region.Region.{Region}
use Rattle.span.proofs.Alike.{same_span, same_region}

pub span? : (s t : Span) → Dec (s ≡ t)
span? s t = by (ℤ_discrete s.lo t.lo) (ℤ_discrete s.hi t.hi)
  where
    by : Dec (s.lo ≡ t.lo) → Dec (s.hi ≡ t.hi) → Dec (s ≡ t)
    by (yes p) (yes q) = yes (same_span s t p q)
    by (yes p) (no n) = no (λ e. n (ap (λ (r : Span). r.hi) e))
    by (no n) d = no (λ e. n (ap (λ (r : Span). r.lo) e))

pub spans? : (ss ts : List Span) → Dec (ss ≡ ts)
spans? [] [] = yes refl
spans? [] (t ∷ ts) = no (λ e. let z : ◌≡◌ {A = ℕ} 0 1 = cc in omega arith)
spans? (s ∷ ss) [] = no (λ e. let z : ◌≡◌ {A = ℕ} 0 1 = cc in omega arith)
spans? (s ∷ ss) (t ∷ ts) = by (span? s t) (spans? ss ts)
  where
    by : Dec (s ≡ t) → Dec (ss ≡ ts) → Dec (◌≡◌ {A = List Span} (s ∷ ss) (t ∷ ts))
    by (yes p) (yes q) = yes (ap₂ (λ (r : Span) (l : List Span). r ∷ l) p q)
    by (yes p) (no n) = no (λ e. n (cc))
    by (no n) d = no (λ e. n (cc))

pub same? : (a b : Region) → Dec (a ≡ b)
same? a b = by (ℕ_discrete a.n b.n) (spans? a.spans b.spans)
  where
    by : Dec (a.n ≡ b.n) → Dec (a.spans ≡ b.spans) → Dec (a ≡ b)
    by (yes p) (yes q) = yes (same_region a b p q)
    by (yes p) (no n) = no (λ e. n (ap (λ (r : Region). r.spans) e))
    by (no n) d = no (λ e. n (ap (λ (r : Region). r.n) e))
