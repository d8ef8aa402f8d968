-- Halves and narrowings: what they hold, and the products of their widths.
use Rattle.std.proofs.Common.{◌≡◌, ℕ, zero, suc, ◌+◌, ◌*◌, ◌<◌, ◌≤◌, max, ◌⊎◌, List, [], ◌∷◌, length, get_or, take, set, ℤ, pos, ◌+ℤ◌, ◌*ℤ◌, ◌≤ℤ◌, sym, ap, ◌∙◌, inl, inr, add-mul, mul-le-mul, mul-add, arith, get_or-set_other, get_or-set_same, lt-ltb}
use native.Mathlib.Decide.{ℕ_discrete}
use borrow.Author.Differences.{ints}
use Rattle.std.proofs.lemmas.Int.{by_lt_z}
use Rattle.span.specs.declared.shape.Span.{Span}
use Rattle.span.specs.declared.region.Region.{Region}
use Rattle.span.specs.Halves.{width, middle, half_is, lower, upper}
use Rattle.span.specs.Holding.{Inside}
use Rattle.span.specs.Regions.{nought, at, put, with_span, lower_half, upper_half, Narrower}
use Rattle.enclosure.specs.Points.{Point, Lies}
use Rattle.runlaw.specs.Sizes.{product, size}

-- ---- what the halves hold
-- coordinate i of the point lies in the span
abbrev LiesAt : Point → ℕ → Span → Type 0
LiesAt x i s = ((s.lo *ℤ pos x.den) ≤ℤ (pos 65536 *ℤ x.top i)) × ((pos 65536 *ℤ x.top i) ≤ℤ (s.hi *ℤ pos x.den))

at_or : (a b : ℤ) → (a ≤ℤ b) ⊎ (b ≤ℤ a)
at_or a b = by_lt_z a b (λ h. inl (omega (arith, ints))) (λ h. inr h)

lies_half : (x : Point) (i : ℕ) (s : Span) → LiesAt x i s → LiesAt x i (lower s) ⊎ LiesAt x i (upper s)
lies_half x i s h = go (at_or (pos 65536 *ℤ x.top i) (middle s *ℤ pos x.den))
  where
    go : ((pos 65536 *ℤ x.top i) ≤ℤ (middle s *ℤ pos x.den)) ⊎ ((middle s *ℤ pos x.den) ≤ℤ (pos 65536 *ℤ x.top i)) → LiesAt x i (lower s) ⊎ LiesAt x i (upper s)
    go (inl a) = inl (h.0, a)
    go (inr a) = inr (a, h.1)

-- the point lies in a box whose span j was changed for one that holds its coordinate j
lies_put : (x : Point) (j : ℕ) (b : Region) (s : Span) → j < b.n → Lies x b → LiesAt x j s → Lies x (put b j s)
lies_put x j b s l h k i m = go (ℕ_discrete i j)
  where
    go : Dec (i ≡ j) → LiesAt x i (at (put b j s) i)
    go (yes e) = rw (e, get_or-set_same b.spans j s nought (omega (arith, b.few, b.whole))) k
    go (no n) = rw (get_or-set_other b.spans j i s nought n) (h i m)

lies_with : (x : Point) (j : ℕ) (b : Region) (s : Span) → j < b.n → Lies x b → LiesAt x j s → Lies x (with_span b j s)
lies_with x j b s l h k = rw (lt-ltb j b.n l) (lies_put x j b s l h k)

pub lies_halves : (x : Point) (j : ℕ) (b : Region) → j < b.n → Lies x b → Lies x (lower_half j b) ⊎ Lies x (upper_half j b)
lies_halves x j b l h = go (lies_half x j (at b j) (h j l))
  where
    go : LiesAt x j (lower (at b j)) ⊎ LiesAt x j (upper (at b j)) → Lies x (lower_half j b) ⊎ Lies x (upper_half j b)
    go (inl a) = inl (lies_with x j b (lower (at b j)) l h a)
    go (inr a) = inr (lies_with x j b (upper (at b j)) l h a)

pub half_n : (j : ℕ) (b : Region) (s : Span) → j < b.n → (with_span b j s).n ≡ b.n
half_n j b s l = rw (lt-ltb j b.n l)

-- ---- products
factor_halves : (s : Span) → 2 ≤ width s → max 1 (width (lower s)) + max 1 (width (upper s)) ≡ max 1 (width s)
factor_halves s h = let m = half_is (s.lo +ℤ s.hi) in let o = s.ordered in let p = (lower s).ordered in let q = (upper s).ordered in omega (arith, ints)

product_halves : (j n : ℕ) (ss : List Span) → j < n → j < length ss → 2 ≤ width (get_or ss j nought) → product (take n (set ss j (lower (get_or ss j nought)))) + product (take n (set ss j (upper (get_or ss j nought)))) ≡ product (take n ss)
product_halves j n [] l k h = absurd (omega arith)
product_halves j zero (s ∷ ss) l k h = absurd (omega arith)
product_halves zero (suc n) (s ∷ ss) l k h = sym (add-mul (max 1 (width (lower s))) (max 1 (width (upper s))) (product (take n ss))) ∙ ap (λ (m : ℕ). m * product (take n ss)) (factor_halves s h)
product_halves (suc j) (suc n) (s ∷ ss) l k h = sym (mul-add (max 1 (width s)) (product (take n (set ss j (lower (get_or ss j nought))))) (product (take n (set ss j (upper (get_or ss j nought)))))) ∙ ap (λ (m : ℕ). max 1 (width s) * m) (product_halves j n ss (omega arith) (omega arith) h)

pub size_halves : (t j : ℕ) (b : Region) → 1 ≤ t → j < b.n → t < width (at b j) → size (lower_half j b) + size (upper_half j b) ≡ size b
size_halves t j b p l h = rw (lt-ltb j b.n l) (product_halves j b.n b.spans l (omega (arith, b.few, b.whole)) (omega arith))

width_inside : (s t : Span) → Inside s t → max 1 (width s) ≤ max 1 (width t)
width_inside s t h = let o = s.ordered in let p = t.ordered in let a = h.0 in let b = h.1 in omega (arith, ints)

product_inside : (n : ℕ) (ss ts : List Span) → length ss ≡ length ts → n ≤ length ts → ((i : ℕ) → i < n → Inside (get_or ss i nought) (get_or ts i nought)) → product (take n ss) ≤ product (take n ts)
product_inside zero ss ts e l h = omega arith
product_inside (suc n) [] [] e l h = omega arith
product_inside (suc n) [] (t ∷ ts) e l h = absurd (omega arith)
product_inside (suc n) (s ∷ ss) [] e l h = absurd (omega arith)
product_inside (suc n) (s ∷ ss) (t ∷ ts) e l h = mul-le-mul (width_inside s t (h 0 (omega arith))) (product_inside n ss ts (omega arith) (omega arith) (λ i m. h (suc i) (omega arith)))

pub size_within : (c b : Region) → Narrower c b → size c ≤ size b
size_within c b h = rw h.same (product_inside b.n c.spans b.spans (c.whole ∙ sym b.whole) (omega (arith, b.few, b.whole)) h.inside)

product_some : (ss : List Span) → 1 ≤ product ss
product_some [] = omega arith
product_some (s ∷ ss) = mul-le-mul {n₁ = 1} {m₁ = 1} (omega arith) (product_some ss)

pub size_some : (b : Region) → 1 ≤ size b
size_some b = product_some (take b.n b.spans)
