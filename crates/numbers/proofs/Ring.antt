-- Identities of commutative rings by computation: an expression over numbers comes to a sum of integer multiples of products of its variables.
use Rattle.std.proofs.Common.{◌≡◌, ℕ, suc, Bool, true, false, ◌&&◌, T, eqb, ltb, List, [], ◌∷◌, ℤ, pos, negsuc, ◌+ℤ◌, ◌*ℤ◌, sym, refl, subst, ap₂, eqb→eq}
use Prim.Native.Nat as Nat
use Rattle.numbers.specs.Numbers.{Numbers, Same}
use Rattle.numbers.specs.Values.{int}
use Rattle.numbers.proofs.Laws as L
use Rattle.numbers.proofs.Laws.{walk}

infixl 60 ◌⊞◌
infixl 70 ◌⊠◌
pub data Expr : Type 0 where
  var : ℕ → Expr
  num : ℤ → Expr
  minus : Expr → Expr
  ◌⊞◌ ◌⊠◌ : Expr → Expr → Expr

-- a sum of terms: each an integer times the variables of a sorted list
pub data Sum : Type 0 where
  none : Sum
  term : ℤ → List ℕ → Sum → Sum

abbrev same_vars : List ℕ → List ℕ → Bool
same_vars [] [] = true
same_vars [] (b ∷ n) = false
same_vars (a ∷ m) [] = false
same_vars (a ∷ m) (b ∷ n) = eqb a b && same_vars m n

abbrev put : ℕ → List ℕ → List ℕ
put v [] = v ∷ []
put v (w ∷ m) = elim (ltb v w) [ true ↦ v ∷ w ∷ m | false ↦ w ∷ put v m ]

abbrev merge : List ℕ → List ℕ → List ℕ
merge [] n = n
merge (v ∷ m) n = put v (merge m n)

abbrev insert : ℤ → List ℕ → Sum → Sum
insert c m none = term c m none
insert c m (term d n p) = elim (same_vars m n) [ true ↦ term (c +ℤ d) n p | false ↦ term d n (insert c m p) ]

abbrev plus : Sum → Sum → Sum
plus none q = q
plus (term c m p) q = insert c m (plus p q)

abbrev scale : ℤ → List ℕ → Sum → Sum
scale c m none = none
scale c m (term d n p) = insert (c *ℤ d) (merge m n) (scale c m p)

abbrev times : Sum → Sum → Sum
times none q = none
times (term c m p) q = plus (scale c m q) (times p q)

abbrev norm : Expr → Sum
norm (var i) = term (pos 1) (i ∷ []) none
norm (num c) = term c [] none
norm (minus e) = scale (negsuc 0) [] (norm e)
norm (e ⊞ f) = plus (norm e) (norm f)
norm (e ⊠ f) = times (norm e) (norm f)

abbrev zeroes : Sum → Bool
zeroes none = true
zeroes (term (pos Nat.zero) m p) = zeroes p
zeroes (term (pos (suc n)) m p) = false
zeroes (term (negsuc n) m p) = false

and_left : (a b : Bool) → T (a && b) → T a
and_left true b t = tt
and_left false b t = t

and_right : (a b : Bool) → T (a && b) → T b
and_right true b t = t
and_right false b t = absurd t

abbrev pub v0 : Expr
v0 = var 0

abbrev pub v1 : Expr
v1 = var 1

abbrev pub v2 : Expr
v2 = var 2

abbrev pub v3 : Expr
v3 = var 3

module _ (N : Numbers) where
  open N use {carrier, le as ◌≼◌, zero, one, add as ◌⊕◌, mul as ◌⊗◌, neg, add_assoc, add_comm, add_zero, add_neg, mul_assoc, mul_comm, mul_one, mul_add}

  infix 40 ◌≼◌ ◌≈◌
  infixl 60 ◌⊕◌
  infixl 70 ◌⊗◌
  abbrev ◌≈◌ : carrier → carrier → Type 0
  x ≈ y = Same ◌≼◌ x y

  abbrev pub at : List carrier → ℕ → carrier
  at [] i = zero
  at (x ∷ xs) Nat.zero = x
  at (x ∷ xs) (suc i) = at xs i

  abbrev pub meaning : List carrier → Expr → carrier
  meaning xs (var i) = at xs i
  meaning xs (num c) = int N c
  meaning xs (minus e) = neg (meaning xs e)
  meaning xs (e ⊞ f) = meaning xs e ⊕ meaning xs f
  meaning xs (e ⊠ f) = meaning xs e ⊗ meaning xs f

  module _ (xs : List carrier) where
    product : List ℕ → carrier
    product [] = one
    product (v ∷ m) = at xs v ⊗ product m

    value : Sum → carrier
    value none = zero
    value (term c m p) = int N c ⊗ product m ⊕ value p

    put_is : (v : ℕ) (m : List ℕ) → product (put v m) ≈ at xs v ⊗ product m
    unfolding product
    put_is v [] = L.same_refl N _
    put_is v (w ∷ m) = by (ltb v w) (put_is v m)
      where
        by : (t : Bool) → product (put v m) ≈ at xs v ⊗ product m → product (elim t [ true ↦ v ∷ w ∷ m | false ↦ w ∷ put v m ]) ≈ at xs v ⊗ (at xs w ⊗ product m)
        by true e = L.same_refl N _
        by false e = grw (walk, e, L.mul_left N (at xs w) (at xs v) (product m))

    merge_is : (m n : List ℕ) → product (merge m n) ≈ product m ⊗ product n
    unfolding product
    merge_is [] n = L.same_sym N (L.one_mul N (product n))
    merge_is (v ∷ m) n = grw (walk, put_is v (merge m n), merge_is m n, L.same_sym N (mul_assoc (at xs v) (product m) (product n)))

    same_vars_is : (m n : List ℕ) → T (same_vars m n) → m ≡ n
    same_vars_is [] [] t = refl
    same_vars_is [] (b ∷ n) t = absurd t
    same_vars_is (a ∷ m) [] t = absurd t
    same_vars_is (a ∷ m) (b ∷ n) t = ap₂ ◌∷◌ (eqb→eq a b (and_left (eqb a b) _ t)) (same_vars_is m n (and_right (eqb a b) _ t))

    insert_is : (c : ℤ) (m : List ℕ) (p : Sum) → value (insert c m p) ≈ int N c ⊗ product m ⊕ value p
    unfolding value
    insert_is c m none = L.same_refl N _
    insert_is c m (term d n p) = by (same_vars m n) refl (insert_is c m p)
      where
        by : (t : Bool) → same_vars m n ≡ t → value (insert c m p) ≈ int N c ⊗ product m ⊕ value p → value (elim t [ true ↦ term (c +ℤ d) n p | false ↦ term d n (insert c m p) ]) ≈ int N c ⊗ product m ⊕ (int N d ⊗ product n ⊕ value p)
        by true e h = rw (same_vars_is m n (subst T (sym e) tt)) (grw (walk, L.int_add N c d, mul_add (int N c) (int N d) (product n), add_assoc (int N c ⊗ product n) (int N d ⊗ product n) (value p)))
        by false e h = grw (walk, h, L.add_left N (int N d ⊗ product n) (int N c ⊗ product m) (value p))

    plus_is : (p q : Sum) → value (plus p q) ≈ value p ⊕ value q
    unfolding value
    plus_is none q = L.same_sym N (L.zero_add N (value q))
    plus_is (term c m p) q = grw (walk, insert_is c m (plus p q), plus_is p q, L.same_sym N (add_assoc (int N c ⊗ product m) (value p) (value q)))

    scale_is : (c : ℤ) (m : List ℕ) (p : Sum) → value (scale c m p) ≈ (int N c ⊗ product m) ⊗ value p
    unfolding value
    scale_is c m none = L.same_sym N (L.same_trans N (mul_comm (int N c ⊗ product m) zero) (L.mul_zero N (int N c ⊗ product m)))
    scale_is c m (term d n p) = grw (walk, insert_is (c *ℤ d) (merge m n) (scale c m p), L.int_mul N c d, merge_is m n, scale_is c m p, L.mul_swap N (int N c) (int N d) (product m) (product n), L.same_sym N (L.add_mul N (int N c ⊗ product m) (int N d ⊗ product n) (value p)))

    times_is : (p q : Sum) → value (times p q) ≈ value p ⊗ value q
    unfolding value
    times_is none q = L.same_sym N (L.mul_zero N (value q))
    times_is (term c m p) q = grw (walk, plus_is (scale c m q) (times p q), scale_is c m q, times_is p q, L.same_sym N (mul_add (int N c ⊗ product m) (value p) (value q)))

    norm_is : (e : Expr) → value (norm e) ≈ meaning xs e
    unfolding value product
    norm_is (var i) = grw (walk, L.int_one N, add_zero (one ⊗ (at xs i ⊗ one)), L.one_mul N (at xs i ⊗ one), mul_one (at xs i))
    norm_is (num c) = grw (walk, add_zero (int N c ⊗ one), mul_one (int N c))
    norm_is (minus e) = grw (walk, scale_is (negsuc 0) [] (norm e), norm_is e, mul_one (int N (negsuc 0)), L.int_neg N (pos 1), L.int_one N, L.mul_neg N one (meaning xs e), L.one_mul N (meaning xs e))
    norm_is (e ⊞ f) = grw (walk, plus_is (norm e) (norm f), norm_is e, norm_is f)
    norm_is (e ⊠ f) = grw (walk, times_is (norm e) (norm f), norm_is e, norm_is f)

    zeroes_is : (p : Sum) → T (zeroes p) → value p ≈ zero
    unfolding value
    zeroes_is none t = L.same_refl N zero
    zeroes_is (term (pos Nat.zero) m p) t = grw (walk, L.int_zero N, L.mul_zero N (product m), zeroes_is p t, add_zero zero)
    zeroes_is (term (pos (suc n)) m p) t = absurd t
    zeroes_is (term (negsuc n) m p) t = absurd t

    -- the two expressions stand for equal numbers, where their difference comes to nothing
    pub ring : (e f : Expr) → T (zeroes (norm (e ⊞ minus f))) → meaning xs e ≈ meaning xs f
    ring e f t = L.add_cancel_same N (neg (meaning xs f)) (L.same_trans N (L.same_sym N (norm_is (e ⊞ minus f))) (L.same_trans N (zeroes_is (norm (e ⊞ minus f)) t) (L.same_sym N (add_neg (meaning xs f)))))
