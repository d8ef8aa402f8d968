-- At the point p / D the laws over every kind of number say what the integers say.
use Rattle.std.proofs.Common.{◌≡◌, ℕ, suc, ◌-◌, ◌*◌, ◌^◌, ◌<◌, ◌≤◌, ◌↔◌, List, [], ◌∷◌, map, take, drop, ℤ, pos, ◌*ℤ◌, ◌≤ℤ◌, ap, ◌∙◌, arith}
use Prim.Native.Nat as Nat
use native.Mathlib.Nat as NatL
use lib.IntN.{pow}
use lib.Pow as Pow
use borrow.Author.Differences.{ints}
use Rattle.numbers.specs.Numbers.{Numbers, Same, Above}
use Rattle.numbers.specs.Values as V
use Rattle.numbers.specs.Rows.{Term, degree, Small}
use Rattle.numbers.specs.Fractions.{Fraction, over, at_most, times}
use Rattle.numbers.proofs.Laws as L
use Rattle.numbers.proofs.Laws.{walk}
use Rattle.numbers.proofs.Ring.{ring, ◌⊠◌, var, v0, v1, v2, v3}
use Rattle.numbers.proofs.Powers.{raised_same, raised_add, raised_mul, int_pow, nat_pow}
use Rattle.numbers.proofs.Ends.{unit_one}
use Rattle.numbers.proofs.Fractions.{fractions, over_is}
use Rattle.span.specs.declared.shape.Span.{Span}
use Rattle.span.specs.Holding.{Within}
use Rattle.span.specs.declared.region.Region.{Region}
use Rattle.span.specs.Regions.{at, In}
use Rattle.sheet.specs.declared.shape.Term.{Term as Written}
use Rattle.sheet.specs.declared.shape.Row.{Row}
use Rattle.sheet.specs.declared.shape.Bounds.{Bounds}
use Rattle.sheet.specs.declared.shape.Bounds.TheVariants.{AtLeast, AtMost, Between}
use Rattle.sheet.specs.declared.system.System.{System}
use Rattle.enclosure.specs.declared.shape.Judgement.{Judgement}
use Rattle.enclosure.specs.declared.shape.Judgement.TheVariants.{Met as Every, Broken, Unsure}
use Rattle.enclosure.specs.declared.enclosure.Enclosure.{Ghosts}
use Rattle.enclosure.specs.Rows.{lines, lines_from, term, factors, term_of, terms_from, values, value, Meets, MeetsAll}
use Rattle.enclosure.specs.Evaluation.{judged}
use Rattle.enclosure.specs.Sound.{Tells, system_tells}
use Rattle.enclosure.specs.Points.{Point, Lies, powers, whole, Met, MetAll, coordinates, scaling, scaling_some, Bridge}

module _ (N : Numbers) (p : Point) (x : ℕ → N.carrier) (near : (i : ℕ) → Same N.le (N.mul (V.int N (pos p.den)) (x i)) (V.int N (p.top i))) where
  open N use {carrier, le as ◌≼◌, zero, one, unit, add as ◌⊕◌, mul as ◌⊗◌, le_trans, mul_comm, mul_one, mul_assoc, add_assoc}

  infix 40 ◌≼◌ ◌≈◌
  infixl 60 ◌⊕◌
  infixl 70 ◌⊗◌
  abbrev ◌≈◌ : carrier → carrier → Type 0
  u ≈ w = Same ◌≼◌ u w

  abbrev int : ℤ → carrier
  int z = V.int N z

  abbrev D : carrier
  D = int (pos p.den)

  many : Above ◌≼◌ D zero
  many = L.int_positive N (let h = p.some in omega (arith, ints))

  -- ---- a coordinate against a count
  low_is : (lo : ℤ) → int lo ⊗ D ≈ int (lo *ℤ pos p.den)
  low_is lo = L.same_sym N (L.int_mul N lo (pos p.den))

  counted_is : (i : ℕ) → V.counted N (x i) ⊗ D ≈ int (pos 65536 *ℤ p.top i)
  counted_is i = grw (walk, ring N (int (pos 65536) ∷ x i ∷ D ∷ []) (v0 ⊠ v1 ⊠ v2) (v0 ⊠ (v2 ⊠ v1)) tt, near i, L.same_sym N (L.int_mul N (pos 65536) (p.top i)))

  pub within_in : (s : Span) (i : ℕ) → ((s.lo *ℤ pos p.den) ≤ℤ (pos 65536 *ℤ p.top i)) × ((pos 65536 *ℤ p.top i) ≤ℤ (s.hi *ℤ pos p.den)) → Within N s (x i)
  within_in s i h = record {
    low = L.mul_cancel N many (le_trans (low_is s.lo).up (le_trans (L.int_mono N h.0) (counted_is i).down));
    high = L.mul_cancel N many (le_trans (counted_is i).up (le_trans (L.int_mono N h.1) (low_is s.hi).down));
  }

  pub within_out : (s : Span) (i : ℕ) → Within N s (x i) → ((s.lo *ℤ pos p.den) ≤ℤ (pos 65536 *ℤ p.top i)) × ((pos 65536 *ℤ p.top i) ≤ℤ (s.hi *ℤ pos p.den))
  within_out s i h = (
    L.int_back N (le_trans (low_is s.lo).down (le_trans (L.mul_mono N many.over h.low) (counted_is i).up)),
    L.int_back N (le_trans (counted_is i).down (le_trans (L.mul_mono N many.over h.high) (low_is s.hi).up)),
  )

  -- ---- terms
  one_power : (i e : ℕ) → V.raised N D e ⊗ V.raised N (x i) e ≈ int (pow (p.top i) e)
  one_power i e = L.same_trans N (L.same_sym N (raised_mul N D (x i) e)) (L.same_trans N (raised_same N e (near i)) (L.same_sym N (int_pow N (p.top i) e)))

  factors_is : (a : carrier) (i : ℕ) (es : List ℕ) → V.raised N D (degree es) ⊗ factors (values N) x a i es ≈ a ⊗ int (powers p i es)
  unfolding factors powers V.raised
  factors_is a i [] = grw (walk, L.one_mul N a, L.same_sym N (mul_one a), L.same_sym N (L.int_one N))
  factors_is a i (e ∷ es) =
      let E = V.raised N D e in
      let G = V.raised N D (degree es) in
      let X = V.raised N (x i) e in
      let F = factors (values N) x (a ⊗ X) (suc i) es in
      let Q = int (powers p (suc i) es) in
      grw (
        walk,
        raised_add N D e (degree es),
        mul_assoc E G F,
        factors_is (a ⊗ X) (suc i) es,
        ring N (E ∷ a ∷ X ∷ Q ∷ []) (v0 ⊠ (v1 ⊠ v2 ⊠ v3)) (v1 ⊠ (v0 ⊠ v2 ⊠ v3)) tt,
        one_power i e,
        L.same_sym N (L.int_mul N (pow (p.top i) e) (powers p (suc i) es)),
      )

  -- what a row is multiplied by to come to an integer
  scale : carrier
  scale = int (pos 65536) ⊗ int (pos (p.den ^ 4))

  term_is : (t : Term) → degree t.exponents ≤ 4 → scale ⊗ term_of (values N) x t ≈ int (t.coefficient *ℤ powers p 0 t.exponents *ℤ pos (p.den ^ (4 - degree t.exponents)))
  unfolding scale
  term_is t h =
      let es = t.exponents in
      let c = t.coefficient in
      let g = degree es in
      let R = V.raised N D g in
      let K = int (pos (p.den ^ (4 - g))) in
      let F = factors (values N) x (V.count N c) 0 es in
      let P = int (powers p 0 es) in
      let e : p.den ^ 4 ≡ p.den ^ (4 - g) * p.den ^ g = ap (λ n. p.den ^ n) (omega arith) ∙ Pow.pow-add p.den (4 - g) g in
      grw (
        walk,
        L.same_of N (ap (λ n. int (pos n)) e),
        L.int_mul N (pos (p.den ^ (4 - g))) (pos (p.den ^ g)),
        nat_pow N p.den g,
        ring N (int (pos 65536) ∷ K ∷ R ∷ F ∷ []) (v0 ⊠ (v1 ⊠ v2) ⊠ v3) (v0 ⊠ v1 ⊠ (v2 ⊠ v3)) tt,
        factors_is (V.count N c) 0 es,
        ring N (int (pos 65536) ∷ K ∷ int c ∷ unit ∷ P ∷ []) (v0 ⊠ v1 ⊠ (v2 ⊠ v3 ⊠ var 4)) (v0 ⊠ v3 ⊠ (v2 ⊠ var 4 ⊠ v1)) tt,
        unit_one N,
        L.one_mul N (int c ⊗ P ⊗ K),
        L.same_sym N (L.int_mul N c (powers p 0 es)),
        L.same_sym N (L.int_mul N (c *ℤ powers p 0 es) (pos (p.den ^ (4 - g)))),
      )

  terms_is : (a : carrier) (ts : List Term) → Small ts → scale ⊗ terms_from (values N) x a ts ≈ scale ⊗ a ⊕ int (whole p ts)
  unfolding terms_from whole Small
  terms_is a [] s = grw (walk, L.same_sym N (Numbers.add_zero N (scale ⊗ a)), L.same_sym N (L.int_zero N))
  terms_is a (t ∷ ts) s =
      let T = t.coefficient *ℤ powers p 0 t.exponents *ℤ pos (p.den ^ (4 - degree t.exponents)) in
      grw (
        walk,
        terms_is (a ⊕ term_of (values N) x t) ts s.1,
        L.add_mul N scale a (term_of (values N) x t),
        add_assoc (scale ⊗ a) (scale ⊗ term_of (values N) x t) (int (whole p ts)),
        term_is t s.0,
        L.same_sym N (L.int_add N T (whole p ts)),
      )

  row_is : (ts : List Term) → Small ts → value N x ts ⊗ scale ≈ int (whole p ts)
  row_is ts s = grw (
    walk,
    mul_comm (value N x ts) scale,
    terms_is (V.count N (pos 0)) ts s,
    L.int_zero N,
    L.mul_zero N unit,
    mul_comm scale zero,
    L.mul_zero N scale,
    L.zero_add N (int (whole p ts)),
  )

  count_is : (m : ℤ) → V.count N m ⊗ scale ≈ int (m *ℤ pos (p.den ^ 4))
  unfolding scale
  count_is m = grw (walk, ring N (int (pos 65536) ∷ int (pos (p.den ^ 4)) ∷ int m ∷ unit ∷ []) (v2 ⊠ v3 ⊠ (v0 ⊠ v1)) (v0 ⊠ v3 ⊠ (v2 ⊠ v1)) tt, unit_one N, L.one_mul N (int m ⊗ int (pos (p.den ^ 4))), L.same_sym N (L.int_mul N m (pos (p.den ^ 4))))

  scale_positive : Above ◌≼◌ scale zero
  unfolding scale
  scale_positive = Numbers.mul_positive N (L.int_positive N (omega (arith, ints))) (L.int_positive N (let h : 0 < p.den ^ 4 = NatL.pow-le-pow_left p.some 4 in omega (arith, ints)))

  scale_is : scale ≈ int (pos (scaling p))
  unfolding scale
  scale_is = L.same_sym N (L.int_mul N (pos 65536) (pos (p.den ^ 4)))

  at_least : (m : ℤ) (ts : List Term) → Small ts → (V.count N m ≼ value N x ts) ↔ ((m *ℤ pos (p.den ^ 4)) ≤ℤ whole p ts)
  at_least m ts s = (
    (λ k. L.int_back N (le_trans (count_is m).down (le_trans (L.mul_mono N scale_positive.over k) (row_is ts s).up))),
    (λ k. L.mul_cancel N scale_positive (le_trans (count_is m).up (le_trans (L.int_mono N k) (row_is ts s).down))),
  )

  at_most_is : (m : ℤ) (ts : List Term) → Small ts → (value N x ts ≼ V.count N m) ↔ (whole p ts ≤ℤ (m *ℤ pos (p.den ^ 4)))
  at_most_is m ts s = (
    (λ k. L.int_back N (le_trans (row_is ts s).down (le_trans (L.mul_mono N scale_positive.over k) (count_is m).up))),
    (λ k. L.mul_cancel N scale_positive (le_trans (row_is ts s).up (le_trans (L.int_mono N k) (count_is m).down))),
  )

  pub meets_is : (k : Bounds) (ts : List Term) → Small ts → Meets N k (value N x ts) ↔ Met p k (whole p ts)
  meets_is (AtLeast lo) ts s = at_least lo ts s
  meets_is (AtMost hi) ts s = at_most_is hi ts s
  meets_is (Between t) ts s = (λ h. ((at_least t.lo ts s).0 h.0, (at_most_is t.hi ts s).0 h.1), λ h. ((at_least t.lo ts s).1 h.0, (at_most_is t.hi ts s).1 h.1))

  pub lies_is : (b : Region) → Lies p b ↔ In N x b
  lies_is b = (λ h i l. within_in (at b i) i (h i l), λ h i l. within_out (at b i) i (h i l))

-- ---- at fractions
near_at : (p : Point) (i : ℕ) → Same at_most (times (V.int fractions (pos p.den)) (coordinates p i)) (V.int fractions (p.top i))
near_at p i = over_is p.den p.some (p.top i)

value_is : (p : Point) (ts : List Term) → Small ts → Same at_most (value fractions (coordinates p) ts) (over (scaling p) (scaling_some p) (whole p ts))
value_is p ts s = record { up = L.mul_cancel fractions {x = v} {y = w} positive both.up; down = L.mul_cancel fractions {x = w} {y = v} positive both.down }
  where
    open fractions use {le as ◌≼◌}

    v : Fraction
    v = value fractions (coordinates p) ts

    w : Fraction
    w = over (scaling p) (scaling_some p) (whole p ts)

    m : Fraction
    m = scale fractions p (coordinates p) (near_at p)

    positive : Above ◌≼◌ m fractions.zero
    positive = scale_positive fractions p (coordinates p) (near_at p)

    -- both times the scale are S
    both : Same ◌≼◌ (times v m) (times w m)
    both = L.same_trans fractions (row_is fractions p (coordinates p) (near_at p) ts s)
        (L.same_sym fractions (L.same_trans fractions (fractions.mul_comm w m) (L.same_trans fractions (fractions.mul_same w (scale_is fractions p (coordinates p) (near_at p))) (over_is (scaling p) (scaling_some p) (whole p ts)))))

lies_at : (p : Point) (b : Region) → Lies p b ↔ In fractions (coordinates p) b
lies_at p b = lies_is fractions p (coordinates p) (near_at p) b

meets_at : (p : Point) (k : Bounds) (ts : List Term) → Small ts → Meets fractions k (value fractions (coordinates p) ts) ↔ Met p k (whole p ts)
meets_at p k ts s = meets_is fractions p (coordinates p) (near_at p) k ts s

pub bridge : Bridge
bridge = record { values = value_is; lies = lies_at; meets = meets_at }

-- ---- systems: every term has degree at most 4
degree_take : (n : ℕ) (es : List ℕ) → degree (take n es) ≤ degree es
degree_take Nat.zero es = omega arith
degree_take (suc n) [] = omega arith
degree_take (suc n) (e ∷ es) = let h = degree_take n es in omega arith

small_map : (n : ℕ) (ts : List Written) → Small (map (term n) ts)
unfolding Small
small_map n [] = tt
small_map n (t ∷ ts) = (let h = degree_take n t.exponents in let k = t.small in omega arith, small_map n ts)

pub lines_at : (p : Point) (n : ℕ) (rs : List Row) (ts : List Written) → MeetsAll fractions (coordinates p) (lines_from n rs ts) ↔ MetAll p (lines_from n rs ts)
unfolding lines_from
lines_at p n [] ts = (λ h. h, λ h. h)
lines_at p n (r ∷ rs) ts =
    let f = meets_at p r.bounds (map (term n) (take r.own ts)) (small_map n (take r.own ts)) in
    let g = lines_at p n rs (drop r.own ts) in
    (λ h. (f.0 h.0, g.0 h.1), λ h. (f.1 h.0, g.1 h.1))

pub system_at : (p : Point) (s : System) → MeetsAll fractions (coordinates p) (lines s) ↔ MetAll p (lines s)
system_at p s = lines_at p s.n s.rows.now s.terms.now

pub box_at : (p : Point) (b : Region) → Lies p b ↔ In fractions (coordinates p) b
box_at = lies_at

-- ---- what a judgement says of points
tells_of : {A B : Type 0} (j : Judgement) → A ↔ B → Tells j A → Tells j B
tells_of Every e h = e.0 h
tells_of Broken e h = λ k. h (e.1 k)
tells_of Unsure e h = tt

pub judged_sound : {X : Type 0} (E : Ghosts X) (s : System) (b : Region) (inside : ℕ → ℤ) (j : Judgement) → j ≡ judged E b inside (lines s) → b.n ≡ s.n → (p : Point) → Lies p b → Tells j (MetAll p (lines s))
judged_sound {X} E s b inside j q e p l = rw q (tells_of (judged E b inside (lines s)) (system_at p s) (system_tells X E s b inside e fractions (coordinates p) ((lies_at p b).0 l)))
