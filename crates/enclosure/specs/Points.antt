-- Points as whole numerators over one whole denominator, and what they lie in and meet, in integers.
use Rattle.std.specs.Prelude.{ℕ, suc, ◌-◌, ◌*◌, ◌^◌, ◌<◌, ◌↔◌, List, [], ◌∷◌, ℤ, pos, ◌+ℤ◌, ◌*ℤ◌, ◌≤ℤ◌}
use Rattle.std.proofs.Common.{mul-pos, lit<}
use Rattle.std.proofs.Math.Nat.{pow-le-pow_left}
use Rattle.std.proofs.Math.IntN.{pow}
use Rattle.numbers.specs.Numbers.{Same}
use Rattle.numbers.specs.Fractions.{Fraction, over, at_most}
use Rattle.numbers.specs.Rows.{Term, degree, Small}
use Rattle.numbers.proofs.Fractions.{fractions}
use Rattle.span.specs.declared.region.Region.{Region}
use Rattle.span.specs.Regions.{at, In}
use Rattle.sheet.specs.declared.shape.Bounds.{Bounds}
use Rattle.sheet.specs.declared.shape.Bounds.TheVariants.{AtLeast, AtMost, Between}
use Rattle.enclosure.specs.Rows.{Line, value, Meets}

-- the point (p₁ / D, p₂ / D, …), D its den and pᵢ its top i
pub record Point : Type 0 where
  pub den : ℕ
  pub some : 0 < den
  pub top : ℕ → ℤ

-- lo × D ≤ 65536 × p ≤ hi × D for each variable
abbrev pub Lies : Point → Region → Type 0
Lies x b = (i : ℕ) → i < b.n → (((at b i).lo *ℤ pos x.den) ≤ℤ (pos 65536 *ℤ x.top i)) × ((pos 65536 *ℤ x.top i) ≤ℤ ((at b i).hi *ℤ pos x.den))

-- p₁ ^ e₁ × … from variable i on
unfoldable pub powers : Point → ℕ → List ℕ → ℤ
powers x i [] = pos 1
powers x i (e ∷ es) = pow (x.top i) e *ℤ powers x (suc i) es

-- S, the sum of c × p₁ ^ e₁ × … × D ^ (4 − g)
unfoldable pub whole : Point → List Term → ℤ
whole x [] = pos 0
whole x (t ∷ ts) = t.coefficient *ℤ powers x 0 t.exponents *ℤ pos (x.den ^ (4 - degree t.exponents)) +ℤ whole x ts

-- the value S of a row is one that it asks for
abbrev pub Met : Point → Bounds → ℤ → Type 0
Met x (AtLeast lo) s = (lo *ℤ pos (x.den ^ 4)) ≤ℤ s
Met x (AtMost hi) s = s ≤ℤ (hi *ℤ pos (x.den ^ 4))
Met x (Between t) s = ((t.lo *ℤ pos (x.den ^ 4)) ≤ℤ s) × (s ≤ℤ (t.hi *ℤ pos (x.den ^ 4)))

-- the point meets every row
abbrev pub MetAll : Point → List Line → Type 0
MetAll x [] = Unit {0}
MetAll x (l ∷ ls) = Met x l.bounds (whole x l.terms) × MetAll x ls

-- ---- the same point as fractions
abbrev pub coordinates : Point → ℕ → Fraction
coordinates p i = over p.den p.some (p.top i)

-- 65536 × D ^ 4
abbrev pub scaling : Point → ℕ
scaling p = 65536 * p.den ^ 4

pub scaling_some : (p : Point) → 0 < scaling p
scaling_some p = mul-pos {m = 65536} (lit< tt) (pow-le-pow_left p.some 4)

-- at the fractions p₁ / D, p₂ / D, … the value of a row of degree at most 4 is S / (65536 × D ^ 4), a point lies in a box where the integers say so, and a row is met where they say so
pub record Bridge : Type 0 where
  pub values : (p : Point) (ts : List Term) → Small ts → Same at_most (value fractions (coordinates p) ts) (over (scaling p) (scaling_some p) (whole p ts))
  pub lies : (p : Point) (b : Region) → Lies p b ↔ In fractions (coordinates p) b
  pub meets : (p : Point) (k : Bounds) (ts : List Term) → Small ts → Meets fractions k (value fractions (coordinates p) ts) ↔ Met p k (whole p ts)
