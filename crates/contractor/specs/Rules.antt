-- The splitting rules: the widest variable, and the first that is wider than the tolerance. Variables are numbered from 0.
use Rattle.std.specs.Prelude.{◌≡◌, ℕ, zero, suc, ◌+◌, ◌<◌, ◌≤◌, Bool, true, false, cond, Some, None, Option, MatchOption, nat_lt, refl}
use Rattle.std.proofs.Math.Decide.{ℕ_discrete}
use Rattle.std.proofs.Common.{arith, ltb-true, ltb-false}
use Rattle.span.specs.declared.region.Region.{Region}
use Rattle.span.specs.Halves.{width}
use Rattle.span.specs.Regions.{at}
use Rattle.contractor.specs.Laws.{Naming, Wider, NoneWider, RuleLaws}

-- ---- the first
-- the lowest number of a variable that is wider than t, of k variables from i on
unfoldable pub first_from : ℕ → Region → ℕ → ℕ → Option ℕ
first_from t b zero i = None
first_from t b (suc k) i = cond (nat_lt t (width (at b i))) (Some i) (first_from t b k (suc i))

abbrev pub first_of : Naming
first_of b t = first_from t b b.n 0

-- variable j is wider than t, and no variable before it is
abbrev pub FirstWider : ℕ → Region → ℕ → Type 0
FirstWider t b j = (j < b.n) × (t < width (at b j)) × ((i : ℕ) → i < j → width (at b i) ≤ t)

abbrev pub FirstIs : Type 0
FirstIs = (b : Region) (t : ℕ) → MatchOption (first_of b t) (NoneWider t b) (FirstWider t b)

one_more : {t : ℕ} (b : Region) (i : ℕ) → ((j : ℕ) → j < i → width (at b j) ≤ t) → width (at b i) ≤ t → (j : ℕ) → j < suc i → width (at b j) ≤ t
one_more {t} b i h k j l = by (ℕ_discrete j i)
  where
    by : Dec (j ≡ i) → width (at b j) ≤ t
    by (yes e) = rw e k
    by (no n) = h j (omega arith)

first_is_from : (t : ℕ) (b : Region) (k i : ℕ) → i + k ≡ b.n → ((j : ℕ) → j < i → width (at b j) ≤ t) → MatchOption (first_from t b k i) (NoneWider t b) (FirstWider t b)
unfolding first_from
first_is_from t b zero i e h = λ j l. h j (omega arith)
first_is_from t b (suc k) i e h = by (nat_lt t (width (at b i))) refl (λ u. first_is_from t b k (suc i) (omega arith) (one_more b i h u))
  where
    by : (w : Bool) → nat_lt t (width (at b i)) ≡ w → (width (at b i) ≤ t → MatchOption (first_from t b k (suc i)) (NoneWider t b) (FirstWider t b)) → MatchOption (cond w (Some i) (first_from t b k (suc i))) (NoneWider t b) (FirstWider t b)
    by true q more = (omega arith, ltb-true t (width (at b i)) q, h)
    by false q more = more (ltb-false t (width (at b i)) q)

pub first_is : FirstIs
first_is b t = first_is_from t b b.n 0 (omega arith) (λ j l. absurd (omega arith))

first_wider : (t : ℕ) (b : Region) (o : Option ℕ) → MatchOption o (NoneWider t b) (FirstWider t b) → MatchOption o (NoneWider t b) (Wider t b)
first_wider t b None h = h
first_wider t b (Some j) h = (h.0, h.1)

pub first_laws : RuleLaws first_of
first_laws = record { names = λ b t. first_wider t b (first_of b t) (first_is b t) }

-- ---- the widest
-- the widest of k variables from i on and of `best`, the lowest of the widest
unfoldable pub widest_from : Region → ℕ → ℕ → ℕ → ℕ
widest_from b zero i best = best
widest_from b (suc k) i best = widest_from b k (suc i) (cond (nat_lt (width (at b best)) (width (at b i))) i best)

abbrev pub widest : Region → ℕ
widest b = widest_from b b.n 0 0

-- the widest, if it is wider than the tolerance
abbrev pub widest_of : Naming
widest_of b t = cond (nat_lt t (width (at b (widest b)))) (Some (widest b)) None

-- variable j is at least as wide as each variable before i, and wider than each before it
abbrev pub WidestBefore : Region → ℕ → ℕ → Type 0
WidestBefore b i j = (j < b.n) × ((k : ℕ) → k < i → width (at b k) ≤ width (at b j)) × ((k : ℕ) → k < j → width (at b k) < width (at b j))

-- none is wider, and each of a lower number is narrower
abbrev pub WidestIs : Type 0
WidestIs = (b : Region) → WidestBefore b b.n (widest b)

widest_is_from : (b : Region) (k i best : ℕ) → i + k ≡ b.n → WidestBefore b i best → best ≤ i → WidestBefore b b.n (widest_from b k i best)
unfolding widest_from
widest_is_from b zero i best e h l = (h.0, λ j m. h.1 j (omega arith), h.2)
widest_is_from b (suc k) i best e h l = by (nat_lt (width (at b best)) (width (at b i))) refl (λ j. widest_is_from b k (suc i) j (omega arith))
  where
    by : (w : Bool) → nat_lt (width (at b best)) (width (at b i)) ≡ w → ((j : ℕ) → WidestBefore b (suc i) j → j ≤ suc i → WidestBefore b b.n (widest_from b k (suc i) j)) → WidestBefore b b.n (widest_from b k (suc i) (cond w i best))
    by true q more =
        let u = ltb-true (width (at b best)) (width (at b i)) q in
        more i (omega arith, one_more b i (λ j m. let v = h.1 j m in omega arith) (omega arith), λ j m. let v = h.1 j m in omega arith) (omega arith)
    by false q more = more best (h.0, one_more b i h.1 (ltb-false (width (at b best)) (width (at b i)) q), h.2) (omega arith)

pub widest_is : WidestIs
widest_is b = widest_is_from b b.n 0 0 (omega arith) (b.some, λ k l. absurd (omega arith), λ k l. absurd (omega arith)) (omega arith)

pub widest_laws : RuleLaws widest_of
widest_laws = record { names = λ b t. by b t (nat_lt t (width (at b (widest b)))) refl }
  where
    by : (b : Region) (t : ℕ) (w : Bool) → nat_lt t (width (at b (widest b))) ≡ w → MatchOption (cond w (Some (widest b)) None) (NoneWider t b) (Wider t b)
    by b t true q = ((widest_is b).0, ltb-true t (width (at b (widest b))) q)
    by b t false q = λ i l. let u = ltb-false t (width (at b (widest b))) q in let v = (widest_is b).1 i l in omega arith

-- two widths of 4: at tolerance 3 the first of them is named, and at 4 nothing
abbrev pub TieBroken : Type 0
TieBroken = (b : Region) → b.n ≡ 2 → width (at b 0) ≡ 4 → width (at b 1) ≡ 4 → (widest_of b 3 ≡ Some 0) × (widest_of b 4 ≡ None)
