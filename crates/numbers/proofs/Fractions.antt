-- Fractions, which need not be in lowest terms, are numbers.
use Rattle.std.proofs.Common.{◌≡◌, ℕ, zero, suc, ◌*◌, ◌<◌, ℤ, pos, negsuc, ◌+ℤ◌, ◌*ℤ◌, neg_ℤ, ◌≤ℤ◌, ◌<ℤ◌, sym, refl, ap, ◌∙◌, ap₂, arith, lit<}
use native.Mathlib.Nat as NatL
use lib.IntN.{*ℤ_comm, +ℤ_comm}
use lib.Signed.{≤ℤ_refl}
use borrow.Author.Differences.{ints}
use Rattle.numbers.specs.Numbers.{Numbers, Same, Above, copies}
use Rattle.numbers.specs.Fractions.{Fraction, over, whole, below, at_most, plus, times, minus}
use Rattle.std.proofs.lemmas.Int.{by_lt_z}
use Rattle.numbers.specs.Values as V
use Rattle.numbers.proofs.Integers as Z
use Rattle.numbers.proofs.Integers.{normal}

-- equal by cross multiplication
pub same : (f g : Fraction) → f.top *ℤ below g ≡ g.top *ℤ below f → Same at_most f g
same f g e = record { up = omega (arith, ints); down = omega (arith, ints) }

pub same_parts : (f g : Fraction) → f.top ≡ g.top → f.bottom ≡ g.bottom → Same at_most f g
same_parts f g e d = same f g (ap₂ (λ t n. t *ℤ pos n) e (sym d))

pub cross_trans : (a b c A B C : ℤ) → pos 0 ≤ℤ A → pos 0 <ℤ B → pos 0 ≤ℤ C → (a *ℤ B) ≤ℤ (b *ℤ A) → (b *ℤ C) ≤ℤ (c *ℤ B) → (a *ℤ C) ≤ℤ (c *ℤ A)
cross_trans a b c A B C p q r h k =
    let h' : (a *ℤ C *ℤ B) ≤ℤ (b *ℤ A *ℤ C) = Z.le_by (simp normal) refl (Z.mul_mono r h) in
    let k' : (b *ℤ A *ℤ C) ≤ℤ (c *ℤ A *ℤ B) = Z.le_by (simp normal) (simp normal) (Z.mul_mono p k) in
    Z.mul_cancel (a *ℤ C) (c *ℤ A) q (Z.≤ℤ-trans h' k')

pub cross_add : (a b c A B C : ℤ) → pos 0 ≤ℤ C → (a *ℤ B) ≤ℤ (b *ℤ A) → ((a *ℤ C +ℤ c *ℤ A) *ℤ (B *ℤ C)) ≤ℤ ((b *ℤ C +ℤ c *ℤ B) *ℤ (A *ℤ C))
cross_add a b c A B C r h = Z.le_by (simp normal) (simp normal) (Z.add_mono (c *ℤ (A *ℤ (B *ℤ C))) (Z.mul_mono r (Z.mul_mono r h)))

pub above_zero : (f : Fraction) → pos 0 ≤ℤ below f
above_zero f = omega (arith, ints)

pub not_zero : (f : Fraction) → pos 0 <ℤ below f
not_zero f = let h = f.some in omega (arith, ints)

-- the positive fractions
pub positive_out : {f : Fraction} → Above at_most f (whole (pos 0)) → pos 0 <ℤ f.top
positive_out {f} p = by_lt_z (pos 0) f.top (λ l. l) (λ l. absurd (p.apart (omega (arith, ints))))

pub positive_in : (f : Fraction) → pos 0 <ℤ f.top → Above at_most f (whole (pos 0))
positive_in f l = record { over = omega (arith, ints); apart = λ k. omega (arith, ints) }

pub sum_positive : (a b A B : ℤ) → pos 0 <ℤ a → pos 0 <ℤ b → pos 0 <ℤ A → pos 0 <ℤ B → pos 0 <ℤ (a *ℤ B +ℤ b *ℤ A)
sum_positive a b A B p q P Q = let l = Z.mul_positive p Q in let r = Z.mul_positive q P in omega (arith, ints)

pub add_assoc : (a b c A B C : ℤ) → ((a *ℤ B +ℤ b *ℤ A) *ℤ C +ℤ c *ℤ (A *ℤ B)) *ℤ (A *ℤ (B *ℤ C)) ≡ (a *ℤ (B *ℤ C) +ℤ (b *ℤ C +ℤ c *ℤ B) *ℤ A) *ℤ (A *ℤ B *ℤ C)
add_assoc a b c A B C = simp normal

pub mul_add : (a b c A B C : ℤ) → ((a *ℤ B +ℤ b *ℤ A) *ℤ c) *ℤ ((A *ℤ C) *ℤ (B *ℤ C)) ≡ ((a *ℤ c) *ℤ (B *ℤ C) +ℤ (b *ℤ c) *ℤ (A *ℤ C)) *ℤ ((A *ℤ B) *ℤ C)
mul_add a b c A B C = simp normal

pub mul_same : (a b c A B C : ℤ) → a *ℤ B ≡ b *ℤ A → (a *ℤ c) *ℤ (B *ℤ C) ≡ (b *ℤ c) *ℤ (A *ℤ C)
mul_same a b c A B C e = swap a c B C ∙ ap (λ x. x *ℤ (c *ℤ C)) e ∙ sym (swap b c A C)
  where
    swap : (a b c d : ℤ) → (a *ℤ b) *ℤ (c *ℤ d) ≡ (a *ℤ c) *ℤ (b *ℤ d)
    swap a b c d = simp normal

-- n copies of the unit are n / 65536
pub unit_copies : (n : ℕ) → let c = copies (whole (pos 0)) plus n (over 65536 (lit< tt) (pos 1)) in c.top *ℤ pos 65536 ≡ pos (n * c.bottom)
unfolding copies
unit_copies zero = refl
unit_copies (suc n) = let e = unit_copies n in omega (arith, ints)

abbrev pub fractions : Numbers
fractions = record {
  carrier = Fraction;
  le = at_most;
  zero = whole (pos 0);
  one = whole (pos 1);
  unit = (over 65536 (lit< tt) (pos 1));
  add = plus;
  mul = times;
  neg = minus;
  le_refl = λ f. ≤ℤ_refl _;
  le_trans = λ {x = f} {y = g} {z = h} p q. cross_trans f.top g.top h.top _ _ _ (above_zero f) (not_zero g) (above_zero h) p q;
  le_total = λ n. Z.≤ℤ-total n;
  le_stable = λ n. Z.≤ℤ-stable n;
  le_add = λ {x = f} {y = g} h p. cross_add f.top g.top h.top (below f) (below g) (below h) (above_zero h) p;
  one_positive = positive_in (whole (pos 1)) (omega (arith, ints));
  add_positive = λ {x = f} {y = g} p q. positive_in (plus f g) (sum_positive f.top g.top (below f) (below g) (positive_out p) (positive_out q) (not_zero f) (not_zero g));
  mul_positive = λ {x = f} {y = g} p q. positive_in (times f g) (Z.mul_positive (positive_out p) (positive_out q));
  add_assoc = λ f g h. same _ _ (add_assoc f.top g.top h.top (below f) (below g) (below h));
  add_comm = λ f g. same_parts _ _ (+ℤ_comm (f.top *ℤ below g) (g.top *ℤ below f)) (NatL.mul_comm f.bottom g.bottom);
  add_zero = λ f. same_parts _ _ (omega (arith, ints)) (omega arith);
  add_neg = λ f. same _ _ (rw Z.neg_mul (omega (arith, ints)));
  mul_same = λ {x = f} {y = g} h e. same _ _ (mul_same f.top g.top h.top (below f) (below g) (below h) (let p = e.up in let q = e.down in omega (arith, ints)));
  mul_assoc = λ f g h. same_parts _ _ (Z.mul_assoc f.top g.top h.top) (NatL.mul_assoc f.bottom g.bottom h.bottom);
  mul_comm = λ f g. same_parts _ _ (*ℤ_comm f.top g.top) (NatL.mul_comm f.bottom g.bottom);
  mul_one = λ f. same_parts _ _ (omega (arith, ints)) (omega arith);
  mul_add = λ f g h. same _ _ (mul_add f.top g.top h.top (below f) (below g) (below h));
  unit_is = same _ _ (let e = unit_copies 65536 in omega (arith, ints));
}

-- the below numbers among the fractions
nat_is : (n : ℕ) → ((V.nat fractions n).top ≡ pos n) × ((V.nat fractions n).bottom ≡ 1)
unfolding V.nat copies
nat_is zero = (refl, refl)
nat_is (suc n) = let e = nat_is n in (omega (arith, ints), omega arith)

pub int_is : (z : ℤ) → ((V.int fractions z).top ≡ z) × ((V.int fractions z).bottom ≡ 1)
unfolding V.int
int_is (pos n) = nat_is n
int_is (negsuc n) = (ap neg_ℤ (nat_is (suc n)).0, (nat_is (suc n)).1)

-- d times p / d is p
pub over_is : (d : ℕ) (h : 0 < d) (p : ℤ) → Same at_most (times (V.int fractions (pos d)) (over d h p)) (V.int fractions p)
over_is d h p = same _ _ (by (int_is (pos d)).0 (int_is (pos d)).1 (int_is p).0 (int_is p).1)
  where
    by : {t u : ℤ} {m n : ℕ} → t ≡ pos d → m ≡ 1 → u ≡ p → n ≡ 1 → t *ℤ p *ℤ pos n ≡ u *ℤ pos (m * d)
    by e f g h = rw (e, f, g, h) (Z.mul_assoc (pos d) p (pos 1) ∙ *ℤ_comm (pos d) (p *ℤ pos 1) ∙ Z.mul_assoc p (pos 1) (pos d))
