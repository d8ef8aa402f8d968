-- The content of each field, there and back.
use Rattle.std.proofs.Common.{◌≡◌, ℕ, suc, ◌≤◌, Bool, true, false, cond, eqb, ◌⊎◌, List, [], ◌∷◌, ◌++◌, length, drop, Some, None, refl, ap, ◌∙◌, inl, inr, arith, length-drop}
use Rattle.std.specs.List.{AllByRecursion}
use Rattle.std.proofs.lemmas.List.{drop-drop, drop_all}
use Rattle.std.proofs.ByRecursion.{All-drop}
use Rattle.std.proofs.lemmas.Bool.{eqb-true, eqb-false}
use Rattle.format.specs.Content.{Limits, at_least, at_most, between, GivenVariable, GoodVariable, GoodLimits, GoodTerm}
use Rattle.numbers.specs.Rows.{Term}
use Rattle.format.specs.Written.{count_bytes, variable_content, limits_content, term_content}
use Rattle.format.specs.Reading.{count_in, variable_in, term_in, limits_in, limits_by}
use Rattle.format.specs.Theorem.{Byte}
use Rattle.format.proofs.Bytes.{count_there, count_of}
use Rattle.format.proofs.Cuts.{cond_some}

pub none_some : {A X : Type 0} (x : A) → None ≡ Some x → X
none_some x h = let z : ◌≡◌ {A = ℕ} 0 1 = cc in absurd (omega arith)

-- a variable
pub variable_of : (xs : List ℕ) → AllByRecursion Byte xs → 12 ≤ length xs → xs ≡ variable_content (variable_in xs)
variable_of xs b h =
    let l = length-drop 4 xs in
    let m = length-drop 8 xs in
    let e : xs ≡ count_bytes (count_in xs) ++ drop 4 xs = count_of xs b (omega arith) in
    let f : drop 4 xs ≡ count_bytes (count_in (drop 4 xs)) ++ drop 8 xs = count_of (drop 4 xs) (All-drop Byte 4 xs b) (omega arith) ∙ ap (λ (ys : List ℕ). count_bytes (count_in (drop 4 xs)) ++ ys) (drop-drop 4 4 xs) in
    let g : drop 8 xs ≡ count_bytes (count_in (drop 8 xs)) ++ drop 12 xs = count_of (drop 8 xs) (All-drop Byte 8 xs b) (omega arith) ∙ ap (λ (ys : List ℕ). count_bytes (count_in (drop 8 xs)) ++ ys) (drop-drop 4 8 xs) in
    e ∙ ap (λ (ys : List ℕ). count_bytes (count_in xs) ++ ys) (f ∙ ap (λ (ys : List ℕ). count_bytes (count_in (drop 4 xs)) ++ ys) g)

pub variable_there : (v : GivenVariable) → GoodVariable v → variable_in (variable_content v) ≡ v
variable_there v g = λ i. record {
  lo = count_there v.lo (count_bytes v.hi ++ (count_bytes v.nominal ++ v.name)) g.lo_count i;
  hi = count_there v.hi (count_bytes v.nominal ++ v.name) g.hi_count i;
  nominal = count_there v.nominal v.name g.nominal_count i;
  name = v.name;
}

-- a term
pub term_there : (n : ℕ) (t : Term) → GoodTerm n t → term_in (term_content t) ≡ t
term_there n t g = λ i. record { coefficient = count_there t.coefficient t.exponents g.c_count i; exponents = t.exponents }

-- a row's kind
pub limits_there : (k : Limits) → GoodLimits k → limits_in (limits_content k) ≡ Some k
limits_there (at_least lo) g = ap (λ z. Some (at_least z)) (count_there lo [] g)
limits_there (at_most hi) g = ap (λ z. Some (at_most z)) (count_there hi [] g)
limits_there (between lo hi) g = λ i. Some (between (count_there lo (count_bytes hi) g.0 i) (count_there hi [] g.1 i))

whole_count : (ys : List ℕ) → AllByRecursion Byte ys → length ys ≡ 4 → ys ≡ count_bytes (count_in ys)
whole_count ys b l = count_of ys b (omega arith) ∙ ap (λ (zs : List ℕ). count_bytes (count_in ys) ++ zs) (drop_all 4 ys (omega arith))

two_counts : (ys : List ℕ) → AllByRecursion Byte ys → length ys ≡ 8 → ys ≡ count_bytes (count_in ys) ++ count_bytes (count_in (drop 4 ys))
two_counts ys b l =
    let m = length-drop 4 ys in
    count_of ys b (omega arith) ∙ ap (λ (zs : List ℕ). count_bytes (count_in ys) ++ zs) (whole_count (drop 4 ys) (All-drop Byte 4 ys b) (omega arith))

read_at_most : (y : ℕ) (ys : List ℕ) (k : Limits) → ys ≡ count_bytes (count_in ys) → ((eqb y 2 ≡ true) × (at_most (count_in ys) ≡ k)) ⊎ (None ≡ Some k) → y ∷ ys ≡ limits_content k
read_at_most y ys k e (inl h) = (λ i. eqb-true y 2 h.0 i ∷ e i) ∙ ap limits_content h.1
read_at_most y ys k e (inr h) = none_some k h

read_at_least : (y : ℕ) (ys : List ℕ) (k : Limits) → ys ≡ count_bytes (count_in ys) → ((eqb y 1 ≡ true) × (at_least (count_in ys) ≡ k)) ⊎ (cond (eqb y 2) (Some (at_most (count_in ys))) None ≡ Some k) → y ∷ ys ≡ limits_content k
read_at_least y ys k e (inl h) = (λ i. eqb-true y 1 h.0 i ∷ e i) ∙ ap limits_content h.1
read_at_least y ys k e (inr h) = read_at_most y ys k e (cond_some (eqb y 2) (at_most (count_in ys)) None k h)

read_between : (y : ℕ) (ys : List ℕ) (k : Limits) → ys ≡ count_bytes (count_in ys) ++ count_bytes (count_in (drop 4 ys)) → ((eqb y 3 ≡ true) × (between (count_in ys) (count_in (drop 4 ys)) ≡ k)) ⊎ (None ≡ Some k) → y ∷ ys ≡ limits_content k
read_between y ys k e (inl h) = (λ i. eqb-true y 3 h.0 i ∷ e i) ∙ ap limits_content h.1
read_between y ys k e (inr h) = none_some k h

limits_by_of : (y : ℕ) (ys : List ℕ) (k : Limits) (b : Bool) → AllByRecursion Byte ys → (b ≡ true → length ys ≡ 4) → (b ≡ false → length ys ≡ 8) → limits_by y b ys ≡ Some k → y ∷ ys ≡ limits_content k
limits_by_of y ys k true bs f g h = read_at_least y ys k (whole_count ys bs (f refl)) (cond_some (eqb y 1) (at_least (count_in ys)) _ k h)
limits_by_of y ys k false bs f g h = read_between y ys k (two_counts ys bs (g refl)) (cond_some (eqb y 3) (between (count_in ys) (count_in (drop 4 ys))) None k h)

pub five_or_nine : (l : ℕ) → ((eqb l 5 ≡ true) ⊎ (eqb l 9 ≡ true)) → (l ≡ 5) ⊎ (l ≡ 9)
five_or_nine l (inl h) = inl (eqb-true l 5 h)
five_or_nine l (inr h) = inr (eqb-true l 9 h)

not_five : (l : ℕ) → (l ≡ 5) ⊎ (l ≡ 9) → eqb l 5 ≡ false → l ≡ 9
not_five l (inl h) e = absurd (eqb-false l 5 e h)
not_five l (inr h) e = h

pub limits_of : (xs : List ℕ) (k : Limits) → AllByRecursion Byte xs → (length xs ≡ 5) ⊎ (length xs ≡ 9) → limits_in xs ≡ Some k → xs ≡ limits_content k
limits_of [] k b (inl l) h = absurd (omega arith)
limits_of [] k b (inr l) h = absurd (omega arith)
limits_of (y ∷ ys) k b l h = limits_by_of y ys k (eqb (suc (length ys)) 5) b.1 (λ e. let f = eqb-true (suc (length ys)) 5 e in omega arith) (λ e. let f = not_five (suc (length ys)) l e in omega arith) h
