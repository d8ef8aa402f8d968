-- One turn of each loop of the pass.
use Rattle.std.proofs.Common.{◌≡◌, ltb, lt-ltb, ◌||◌, ℕ, zero, suc, ◌+◌, ◌-◌, ◌<◌, ◌≤◌, true, false, List, [], ◌∷◌, map, length, get_or, take, drop, set, ℤ, ◌≤ℤ◌, Some, sym, refl, ap, ◌∙◌, add-one, arith, drop_of_length-le, drop-cons}
use Rattle.std.specs.List.{list_any}
use Rattle.std.proofs.Math.Decide.{dec_lt}
use Rattle.span.specs.Making.{at_most?}
use Rattle.arithmetic.specs.Reaches.{stretch}
use Rattle.numbers.specs.Rows.{Term, degree}
use Rattle.sheet.specs.declared.shape.Term.{Term as Written}
use Rattle.enclosure.specs.Rows.{Ops, term_of, terms_from, term}
use Rattle.narrowing.specs.Passes.{has, lowered, lower, occurs, holding, others, spanning, crossing}

-- the exponent of variable j is at least 1
has_some : (n j : ℕ) (es : List ℕ) → j < n → 0 < get_or es j 0 → has j (take n es) ≡ true
unfolding has
has_some zero j es h k = absurd (omega arith)
has_some (suc n) j [] h k = absurd (omega arith)
has_some (suc n) zero (zero ∷ es) h k = absurd (omega arith)
has_some (suc n) zero (suc e ∷ es) h k = refl
has_some (suc n) (suc j) (e ∷ es) h k = has_some n j es (omega arith) k

has_none : (n j : ℕ) (es : List ℕ) → get_or es j 0 ≡ 0 → has j (take n es) ≡ false
unfolding has
has_none zero j es k = refl
has_none (suc n) j [] k = refl
has_none (suc n) zero (zero ∷ es) k = refl
has_none (suc n) zero (suc e ∷ es) k = absurd (omega arith)
has_none (suc n) (suc j) (e ∷ es) k = has_none n j es k

lowered_set : (n j : ℕ) (es : List ℕ) → j < n → 0 < get_or es j 0 → lowered j (take n es) ≡ take n (set es j (get_or es j 0 - 1))
unfolding lowered
lowered_set zero j es h k = absurd (omega arith)
lowered_set (suc n) j [] h k = absurd (omega arith)
lowered_set (suc n) zero (zero ∷ es) h k = absurd (omega arith)
lowered_set (suc n) zero (suc e ∷ es) h k = ap (λ (m : ℕ). m ∷ take n es) (omega arith)
lowered_set (suc n) (suc j) (e ∷ es) h k = ap (λ (l : List ℕ). e ∷ l) (lowered_set n j es (omega arith) k)

lower_is : (n j : ℕ) (t r : Written) → r.coefficient ≡ t.coefficient → r.exponents ≡ set t.exponents j (get_or t.exponents j 0 - 1) → j < n → 0 < get_or t.exponents j 0 → lower j (term n t) ≡ term n r
lower_is n j t r ec ee h k = λ i. record { coefficient = sym ec i; exponents = (lowered_set n j t.exponents h k ∙ ap (take n) (sym ee)) i }

-- some term has a power of variable j
pub occurs_any : (n j : ℕ) (ts : List Written) → j < n → list_any (λ t. ltb 0 (get_or t.exponents j 0)) ts ≡ occurs j (map (term n) ts)
unfolding occurs
occurs_any n j [] h = refl
occurs_any n j (t ∷ ts) h = by (dec_lt 0 (get_or t.exponents j 0)) (occurs_any n j ts h)
  where
    by : Dec (0 < get_or t.exponents j 0) → list_any (λ u. ltb 0 (get_or u.exponents j 0)) ts ≡ occurs j (map (term n) ts) → list_any (λ u. ltb 0 (get_or u.exponents j 0)) (t ∷ ts) ≡ has j (take n t.exponents) || occurs j (map (term n) ts)
    by (yes k) more = rw (lt-ltb 0 (get_or t.exponents j 0) k, has_some n j t.exponents h k) refl
    by (no k) more = let z : get_or t.exponents j 0 ≡ 0 = omega arith in rw (z, has_none n j t.exponents z) more

-- the element t of ts at i, and variable j
module _ (n j : ℕ) (ts : List Written) (i : ℕ) (t : Written) (et : t ≡ get_or ts i t) (l : i < length ts) (h : j < n) where
  item : drop i ts ≡ t ∷ drop (suc i) ts
  item = drop-cons ts i t l ∙ ap (λ (u : Written). u ∷ drop (suc i) ts) (sym et)

  module _ {X : Type 0} (O : Ops X) (v : ℕ → X) (a : X) where
    -- r is t with one power of variable j taken off
    pub holding_found : (r : Written) → r.coefficient ≡ t.coefficient → r.exponents ≡ set t.exponents j (get_or t.exponents j 0 - 1) → 0 < get_or t.exponents j 0
        → terms_from O v a (holding j (map (term n) (drop i ts))) ≡ terms_from O v (O.plus a (term_of O v (term n r))) (holding j (map (term n) (drop (i + 1) ts)))
    unfolding terms_from holding
    holding_found r ec ee k = ap (λ (u : List Written). terms_from O v a (holding j (map (term n) u))) item ∙ rw (has_some n j t.exponents h k, add-one) (ap (λ (u : Term). terms_from O v (O.plus a (term_of O v u)) (holding j (map (term n) (drop (suc i) ts)))) (lower_is n j t r ec ee h k))

    pub holding_passed : get_or t.exponents j 0 ≡ 0 → terms_from O v a (holding j (map (term n) (drop i ts))) ≡ terms_from O v a (holding j (map (term n) (drop (i + 1) ts)))
    unfolding holding
    holding_passed k = ap (λ (u : List Written). terms_from O v a (holding j (map (term n) u))) item ∙ rw (has_none n j t.exponents k, add-one)

    pub others_found : get_or t.exponents j 0 ≡ 0 → terms_from O v a (others j (map (term n) (drop i ts))) ≡ terms_from O v (O.plus a (term_of O v (term n t))) (others j (map (term n) (drop (i + 1) ts)))
    unfolding terms_from others
    others_found k = ap (λ (u : List Written). terms_from O v a (others j (map (term n) u))) item ∙ rw (has_none n j t.exponents k, add-one)

    pub others_passed : 0 < get_or t.exponents j 0 → terms_from O v a (others j (map (term n) (drop i ts))) ≡ terms_from O v a (others j (map (term n) (drop (i + 1) ts)))
    unfolding others
    others_passed k = ap (λ (u : List Written). terms_from O v a (others j (map (term n) u))) item ∙ rw (has_some n j t.exponents h k, add-one)

module _ {X : Type 0} (O : Ops X) (v : ℕ → X) (a : X) where
  pub holding_done : (n j : ℕ) (ts : List Written) (i : ℕ) → length ts ≤ i → terms_from O v a (holding j (map (term n) (drop i ts))) ≡ a
  unfolding terms_from holding
  holding_done n j ts i h = ap (λ (r : List Written). terms_from O v a (holding j (map (term n) r))) (drop_of_length-le ts h)

  pub others_done : (n j : ℕ) (ts : List Written) (i : ℕ) → length ts ≤ i → terms_from O v a (others j (map (term n) (drop i ts))) ≡ a
  unfolding terms_from others
  others_done n j ts i h = ap (λ (r : List Written). terms_from O v a (others j (map (term n) r))) (drop_of_length-le ts h)

pub crossing_yes : (a b : ℤ) → a ≤ℤ b → Some (stretch a b) ≡ crossing a b
crossing_yes a b h = by (at_most? a b)
  where
    by : (d : Dec (a ≤ℤ b)) → Some (stretch a b) ≡ spanning a b d
    by (yes k) = refl
    by (no n) = absurd (n h)

-- one power less is no higher degree
pub degree_lower : (j : ℕ) (es : List ℕ) → degree (set es j (get_or es j 0 - 1)) ≤ degree es
degree_lower j [] = omega arith
degree_lower zero (e ∷ es) = omega arith
degree_lower (suc j) (e ∷ es) = let h = degree_lower j es in omega arith
