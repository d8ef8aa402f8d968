-- Each test of the reader decides the fact that it is for.
use Rattle.std.proofs.Common.{◌≡◌, ℕ, ◌≤◌, Bool, true, false, ◌&&◌, T, eqb, leb, ◌≢◌, List, [], ◌∷◌, ℤ, ◌≤ℤ◌, Decides, sym, refl}
use lib.Signed.{le_z}
use Rattle.std.specs.List.{AllByRecursion}
use Rattle.std.specs.Str.{bytes_eq}
use Rattle.std.proofs.lemmas.Bool.{leb-true, le-leb, both_ways, or_parts, or_from, eqb-true, eq-eqb, true≢false}
use Rattle.std.proofs.lemmas.Bool.Decides.{Decides-and, Decides-or, Decides-like}
use Rattle.std.proofs.ByRecursion.{Decides-by_and}
use Rattle.std.proofs.lemmas.Slice.Eq.{bytes_eq-Decides}
use Rattle.format.specs.Content.{Limits, at_least, at_most, between, GivenVariable, Letter, GoodLimits, GoodTolerance}
use Rattle.numbers.specs.Rows.{Term, degree}
use Rattle.span.specs.Making.{is_count, Count}
use Rattle.format.specs.Reading.{is_letter, are_letters, good_variable, good_term, good_limits, taken}

true_t : (b : Bool) → b ≡ true → T b
true_t true e = tt
true_t false e = absurd (true≢false (sym e))

T_true : (b : Bool) → T b → b ≡ true
T_true true t = refl
T_true false t = absurd t

decides_le_z : (a b : ℤ) → Decides (le_z a b) (a ≤ℤ b)
decides_le_z a b = (λ e. record { le = true_t (le_z a b) e }, λ h. T_true (le_z a b) h.le)

pub decides_leb : (a b : ℕ) → Decides (leb a b) (a ≤ b)
decides_leb a b = (leb-true a b, le-leb a b)

pub decides_eqb : (a b : ℕ) → Decides (eqb a b) (a ≡ b)
decides_eqb a b = (eqb-true a b, eq-eqb a b)

pub decides_count : (z : ℤ) → Decides (is_count z) (Count z)
decides_count z = Decides-and _ _ (decides_le_z _ _) (decides_le_z _ _)

decides_letter : (b : ℕ) → Decides (is_letter b) (Letter b)
decides_letter b = Decides-or _ _ (Decides-and _ _ (decides_leb _ _) (decides_leb _ _)) (Decides-and _ _ (decides_leb _ _) (decides_leb _ _))

pub decides_letters : (bs : List ℕ) → Decides (are_letters bs) (AllByRecursion Letter bs)
decides_letters = Decides-by_and is_letter Letter are_letters decides_letter refl (λ x xs. refl)

-- what the test of a variable tells, the name's length aside
abbrev pub Told : GivenVariable → Type 0
Told v = Count v.lo × (Count v.hi × (Count v.nominal × ((v.lo ≤ℤ v.nominal) × ((v.nominal ≤ℤ v.hi) × AllByRecursion Letter v.name))))

pub decides_variable : (v : GivenVariable) → Decides (good_variable v) (Told v)
decides_variable v =
    Decides-and _ _ (decides_count v.lo)
    (Decides-and _ _ (decides_count v.hi)
    (Decides-and _ _ (decides_count v.nominal)
    (Decides-and _ _ (decides_le_z v.lo v.nominal)
    (Decides-and _ _ (decides_le_z v.nominal v.hi) (decides_letters v.name)))))

pub decides_term : (t : Term) → Decides (good_term t) (Count t.coefficient × (degree t.exponents ≤ 4))
decides_term t = Decides-and _ _ (decides_count t.coefficient) (decides_leb _ _)

pub decides_limits : (k : Limits) → Decides (good_limits k) (GoodLimits k)
decides_limits (at_least lo) = decides_count lo
decides_limits (at_most hi) = decides_count hi
decides_limits (between lo hi) = Decides-like _ (λ h. (h.0, h.1.0, h.1.1)) (λ h. (h.0, (h.1, h.2))) (Decides-and _ _ (decides_count lo) (Decides-and _ _ (decides_count hi) (decides_le_z lo hi)))

pub decides_tolerance : (t : ℕ) → Decides (leb 1 t && leb t 2147483647) (GoodTolerance t)
decides_tolerance t = Decides-and _ _ (decides_leb _ _) (decides_leb _ _)

-- no variable of the list has the name
pub taken_not : (name : List ℕ) (vs : List GivenVariable) → taken name vs ≡ false → AllByRecursion (λ v. v.name ≢ name) vs
taken_not name [] e = tt
taken_not name (v ∷ vs) e =
    let p = or_parts (bytes_eq v.name name) (taken name vs) e in
    (λ s. both_ways (bytes_eq v.name name) p.0 ((bytes_eq-Decides v.name name).1 s), taken_not name vs p.1)

pub false_from : (b : Bool) (P : Type 0) → Decides b P → (P → ⊥) → b ≡ false
false_from true P d n = absurd (n (d.0 refl))
false_from false P d n = refl

pub not_taken : (name : List ℕ) (vs : List GivenVariable) → AllByRecursion (λ v. v.name ≢ name) vs → taken name vs ≡ false
not_taken name [] h = refl
not_taken name (v ∷ vs) h = or_from _ _ (false_from _ _ (bytes_eq-Decides v.name name) h.0) (not_taken name vs h.1)
