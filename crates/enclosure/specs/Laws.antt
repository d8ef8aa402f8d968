-- What an enclosure owes.
use Rattle.std.specs.Prelude.{ℕ, ℤ}
use Rattle.numbers.specs.Numbers.{Numbers}
use Rattle.numbers.specs.Values as V
use Rattle.span.specs.declared.shape.Span.{Span}
use Rattle.span.specs.Reached.{Reach}
use Rattle.span.specs.Holding.{Held, Within}

pub record EnclosureLaws {X : Type 0} (number : ℤ → X) (variable : ℕ → Span → ℤ → X) (plus times : X → X → X) (power : X → ℕ → X) (span : X → Reach) (holds : (N : Numbers) → X → (ℕ → N.carrier) → N.carrier → Type 0) : Type 1 where
  -- made from a coefficient it holds that everywhere
  pub numbers : (N : Numbers) (x : ℕ → N.carrier) (c : ℤ) → holds N (number c) x (V.count N c)
  -- made from a variable it holds the coordinate wherever that lies in the span
  pub variables : (N : Numbers) (x : ℕ → N.carrier) (i : ℕ) (s : Span) (m : ℤ) → Within N s (x i) → holds N (variable i s m) x (x i)
  pub sums : (N : Numbers) (x : ℕ → N.carrier) (a b : X) (p q : N.carrier) → holds N a x p → holds N b x q → holds N (plus a b) x (N.add p q)
  pub products : (N : Numbers) (x : ℕ → N.carrier) (a b : X) (p q : N.carrier) → holds N a x p → holds N b x q → holds N (times a b) x (N.mul p q)
  pub powers : (N : Numbers) (x : ℕ → N.carrier) (a : X) (k : ℕ) (p : N.carrier) → holds N a x p → holds N (power a k) x (V.raised N p k)
  -- its span holds all that it holds
  pub spans : (N : Numbers) (x : ℕ → N.carrier) (a : X) (p : N.carrier) → holds N a x p → Held N (span a) p
