-- The value of a row is A · xⱼ + R.
use Rattle.std.specs.Prelude.{◌≡◌, ℕ, zero, suc, ◌+◌, Bool, true, false, cond, T, List, [], ◌∷◌, pos}
use Rattle.std.proofs.Math.Nat as NatL
use Rattle.std.proofs.Math.Path.{refl}
use Rattle.std.proofs.Common.{sym, subst}
use Rattle.numbers.specs.Numbers.{Numbers, Same}
use Rattle.numbers.specs.Values as V
use Rattle.numbers.specs.Rows.{Term}
use Rattle.numbers.proofs.Laws as L
use Rattle.numbers.proofs.Laws.{walk}
use Rattle.numbers.proofs.Ring.{ring, ◌⊞◌, ◌⊠◌, num, v0, v1, v2, v3}
use Rattle.enclosure.specs.Rows.{factors, term_of, terms_from, values, value}
use Rattle.narrowing.specs.Passes.{has, lowered, lower, holding, others}

module _ (N : Numbers) (x : ℕ → N.carrier) where
  open N use {carrier, le as ◌≼◌, zero as nil, one, unit, add as ◌⊕◌, mul as ◌⊗◌, neg, mul_assoc, mul_comm, add_assoc}

  infix 40 ◌≼◌ ◌≈◌
  infixl 60 ◌⊕◌
  infixl 70 ◌⊗◌
  abbrev ◌≈◌ : carrier → carrier → Type 0
  p ≈ q = Same ◌≼◌ p q

  abbrev many : carrier → ℕ → List ℕ → carrier
  many a i es = factors (values N) x a i es

  -- equal starts give equal products
  factors_same : (a b : carrier) (i : ℕ) (es : List ℕ) → a ≈ b → many a i es ≈ many b i es
  unfolding factors
  factors_same a b i [] e = e
  factors_same a b i (k ∷ es) e = factors_same (a ⊗ V.raised N (x i) k) (b ⊗ V.raised N (x i) k) (suc i) es (N.mul_same (V.raised N (x i) k) e)

  -- a factor of the start is a factor of the product
  factors_times : (a y : carrier) (i : ℕ) (es : List ℕ) → many (a ⊗ y) i es ≈ many a i es ⊗ y
  unfolding factors
  factors_times a y i [] = L.same_refl N (a ⊗ y)
  factors_times a y i (k ∷ es) =
      let p = V.raised N (x i) k in
      L.same_trans N (factors_same (a ⊗ y ⊗ p) (a ⊗ p ⊗ y) (suc i) es (ring N (a ∷ y ∷ p ∷ []) (v0 ⊠ v1 ⊠ v2) (v0 ⊠ v2 ⊠ v1) tt)) (factors_times (a ⊗ p) y (suc i) es)

  -- one power of xⱼ taken off
  factors_lowered : (a : carrier) (i j : ℕ) (es : List ℕ) → T (has j es) → many a i es ≈ many a i (lowered j es) ⊗ x (i + j)
  unfolding factors has lowered V.raised
  factors_lowered a i j [] h = absurd h
  factors_lowered a i zero (zero ∷ es) h = absurd h
  factors_lowered a i zero (suc e ∷ es) h =
      rw NatL.add-zero (L.same_trans N (factors_same (a ⊗ (V.raised N (x i) e ⊗ x i)) (a ⊗ V.raised N (x i) e ⊗ x i) (suc i) es (L.same_sym N (mul_assoc a (V.raised N (x i) e) (x i)))) (factors_times (a ⊗ V.raised N (x i) e) (x i) (suc i) es))
  factors_lowered a i (suc j) (e ∷ es) h = rw (NatL.add-suc, ← NatL.suc-add) (factors_lowered (a ⊗ V.raised N (x i) e) (suc i) j es h)

  term_lowered : (j : ℕ) (t : Term) → T (has j t.exponents) → term_of (values N) x t ≈ term_of (values N) x (lower j t) ⊗ x j
  term_lowered j t h = rw NatL.zero-add at (factors_lowered (V.count N t.coefficient) 0 j t.exponents h)

  -- a = b xⱼ + c stays so from term to term
  terms_split : (j : ℕ) (a b c : carrier) (ts : List Term) → a ≈ b ⊗ x j ⊕ c
      → terms_from (values N) x a ts ≈ terms_from (values N) x b (holding j ts) ⊗ x j ⊕ terms_from (values N) x c (others j ts)
  unfolding terms_from holding others
  terms_split j a b c [] e = e
  terms_split j a b c (t ∷ ts) e = by (has j t.exponents) refl (λ b' c' e'. terms_split j (a ⊕ term_of (values N) x t) b' c' ts e')
    where
      Split : carrier → List Term → carrier → List Term → Type 0
      Split b hs c os = terms_from (values N) x (a ⊕ term_of (values N) x t) ts ≈ terms_from (values N) x b hs ⊗ x j ⊕ terms_from (values N) x c os

      by : (h : Bool) → has j t.exponents ≡ h → ((b' c' : carrier) → a ⊕ term_of (values N) x t ≈ b' ⊗ x j ⊕ c' → Split b' (holding j ts) c' (others j ts))
          → Split b (cond h (lower j t ∷ holding j ts) (holding j ts)) c (cond h (others j ts) (t ∷ others j ts))
      by true h more = more (b ⊕ term_of (values N) x (lower j t)) c
          (grw (walk, e, term_lowered j t (subst T (sym h) tt), ring N (b ∷ x j ∷ c ∷ term_of (values N) x (lower j t) ∷ []) (v0 ⊠ v1 ⊞ v2 ⊞ v3 ⊠ v1) ((v0 ⊞ v3) ⊠ v1 ⊞ v2) tt))
      by false h more = more b (c ⊕ term_of (values N) x t) (grw (walk, e, add_assoc (b ⊗ x j) c (term_of (values N) x t)))

  pub row_split : (j : ℕ) (ts : List Term) → value N x ts ≈ value N x (holding j ts) ⊗ x j ⊕ value N x (others j ts)
  row_split j ts = terms_split j (V.count N (pos 0)) (V.count N (pos 0)) (V.count N (pos 0)) ts (ring N (unit ∷ x j ∷ []) (num (pos 0) ⊠ v0) (num (pos 0) ⊠ v0 ⊠ v1 ⊞ num (pos 0) ⊠ v0) tt)
