-- What the decoded parts of a field hold, in the words of the format.
use Rattle.std.proofs.Common.{◌≡◌, ℕ, zero, suc, ◌+◌, ◌-◌, ◌≤◌, Bool, true, false, cond, List, [], ◌∷◌, ◌++◌, length, replicate, ℤ, ◌≤ℤ◌, ◌<ℤ◌, Some, None, sym, refl, ap, ◌∙◌, subst, arith, w32, SFits, to_z, of_z}
use borrow.Author.Differences.{ints}
use Rattle.numbers.specs.Rows.{degree}
use Rattle.format.specs.Content.{GivenVariable}
use Rattle.format.specs.Reading.{are_letters, good_variable}
use Rattle.std.proofs.lemmas.Bool.{both_ways, le-leb}
use Rattle.span.specs.declared.shape.Span.{Span}
use Rattle.span.specs.Making.{Count, Fit, made}
use Rattle.span.proofs.Alike.{made_is, none_made}
use Rattle.std.proofs.lemmas.Int.{to_z-of_z}
use Rattle.format.proofs.Decide.{Told, decides_letters, decides_variable, false_from}
use Rattle.sheet.specs.Held.{widened, is_name}

degree_zeros : (k : ℕ) → degree (replicate k 0) ≡ 0
degree_zeros zero = refl
degree_zeros (suc k) = let e = degree_zeros k in omega arith

degree_append : (xs ys : List ℕ) → degree (xs ++ ys) ≡ degree xs + degree ys
degree_append [] ys = omega arith
degree_append (x ∷ xs) ys = let e = degree_append xs ys in omega arith

pub degree_widened : (xs : List ℕ) → degree (widened xs) ≡ degree xs
degree_widened xs = let e = degree_append xs (replicate (8 - length xs) 0) in let z = degree_zeros (8 - length xs) in omega arith

-- out of range: one of the facts that the test is for fails
pub variable_out : (g : GivenVariable) → ¬ (Told g) → None ≡ cond (good_variable g) (Some g) None
variable_out g n = rw (false_from (good_variable g) (Told g) (decides_variable g) n)

pub variable_read : (v g : GivenVariable) → v ≡ g → Told g → Some v ≡ cond (good_variable g) (Some g) None
variable_read v g e t = rw ((decides_variable g).1 t) (ap Some e)

pub cond_none : {A : Type 0} (b : Bool) (x : A) → None ≡ cond b (Some x) None → b ≡ false
cond_none true x h = let z : ◌≡◌ {A = ℕ} 0 1 = cc in absurd (omega arith)
cond_none false x h = refl

pub cond_some : {A : Type 0} (b : Bool) (x y : A) → Some y ≡ cond b (Some x) None → (b ≡ true) × (y ≡ x)
cond_some true x y h = (refl, cc)
cond_some false x y h = let z : ◌≡◌ {A = ℕ} 0 1 = cc in absurd (omega arith)

pub name_same : (g : GivenVariable) (m : List ℕ) → Some m ≡ cond (are_letters g.name) (Some g.name) None → m ≡ g.name
name_same g m e = (cond_some (are_letters g.name) g.name m e).1

-- s is the span that was made, n the nominal, and g what the content says
module _ (g : GivenVariable) (s : Span) (n : ℤ) (lo-is : s.lo ≡ g.lo) (hi-is : s.hi ≡ g.hi) (n-is : n ≡ g.nominal) where
  pub nominal_below : n <ℤ s.lo → ¬ (Told g)
  nominal_below h t = let a : g.lo ≤ℤ g.nominal = t.1.1.1.0 in let b : g.nominal <ℤ g.lo = rw (← lo-is, ← n-is) h in omega (arith, ints)

  pub nominal_above : s.hi <ℤ n → ¬ (Told g)
  nominal_above h t = let a : g.nominal ≤ℤ g.hi = t.1.1.1.1.0 in let b : g.hi <ℤ g.nominal = rw (← hi-is, ← n-is) h in omega (arith, ints)

  pub name_missing : None ≡ cond (are_letters g.name) (Some g.name) None → ¬ (Told g)
  name_missing h t = both_ways (are_letters g.name) (cond_none (are_letters g.name) g.name h) ((decides_letters g.name).1 t.1.1.1.1.1)

  pub all_told : s.lo ≤ℤ n → n ≤ℤ s.hi → (m : List ℕ) → Some m ≡ cond (are_letters g.name) (Some g.name) None → Told g
  all_told h k m e =
      let o = s.ordered in
      let l = s.least in
      let t = s.most in
      let lows : Count s.lo = (omega (arith, ints), omega (arith, ints)) in
      let highs : Count s.hi = (omega (arith, ints), omega (arith, ints)) in
      let mids : Count n = (omega (arith, ints), omega (arith, ints)) in
      (subst Count lo-is lows, (subst Count hi-is highs, (subst Count n-is mids, (rw (← lo-is, ← n-is) h, (rw (← hi-is, ← n-is) k, (decides_letters g.name).0 (cond_some (are_letters g.name) g.name m e).0)))))

-- the ends of a span that was made of two counts
pub ends_made : (s : Span) (a b x y : ℤ) → SFits w32 a → SFits w32 b → Some s ≡ made (to_z w32 (of_z w32 a)) (to_z w32 (of_z w32 b)) → a ≡ x → b ≡ y → (s.lo ≡ x) × (s.hi ≡ y) × Fit x y
ends_made s a b x y f g e p q =
    let u : to_z w32 (of_z w32 a) ≡ x = to_z-of_z w32 a f ∙ p in
    let v : to_z w32 (of_z w32 b) ≡ y = to_z-of_z w32 b g ∙ q in
    made_is x y s (sym (e ∙ (λ i. made (u i) (v i))))

-- no span was made of them
pub ends_bad : (a b x y : ℤ) → SFits w32 a → SFits w32 b → None ≡ made (to_z w32 (of_z w32 a)) (to_z w32 (of_z w32 b)) → a ≡ x → b ≡ y → ¬ (Fit x y)
ends_bad a b x y f g e p q =
    let u : to_z w32 (of_z w32 a) ≡ x = to_z-of_z w32 a f ∙ p in
    let v : to_z w32 (of_z w32 b) ≡ y = to_z-of_z w32 b g ∙ q in
    none_made x y (sym (e ∙ (λ i. made (u i) (v i))))

pub span_missing : (g : GivenVariable) → ¬ (Fit g.lo g.hi) → ¬ (Told g)
span_missing g n t = n (record { ordered = let a : g.lo ≤ℤ g.nominal = t.1.1.1.0 in let b : g.nominal ≤ℤ g.hi = t.1.1.1.1.0 in omega (arith, ints); least = t.0.0; most = t.1.0.1 })

-- 1 to 8 bytes are a name if they are letters
pub name_letters : (m : List ℕ) → 1 ≤ length m → length m ≤ 8 → is_name m ≡ are_letters m
name_letters m h k = rw (le-leb 1 (length m) h, le-leb (length m) 8 k)
