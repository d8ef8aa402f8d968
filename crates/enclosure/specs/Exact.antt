-- A row over a closed span is met exactly when each number in the span is one that it asks for, and broken exactly when none is.
use Rattle.std.proofs.Common.{arith, ap, ap₂, ◌∙◌, subst}
use Rattle.std.specs.Prelude.{◌≡◌, ◌↔◌, ℤ, ◌≤ℤ◌, refl}
use Rattle.std.specs.Int.Signed.{≤ℤ_refl}
use Rattle.std.proofs.lemmas.Int.{clamps, ints}
use Rattle.std.specs.Int.{int_max}
use Rattle.numbers.specs.Numbers.{Numbers}
use Rattle.numbers.specs.Values as V
use Rattle.numbers.proofs.Laws as L
use Rattle.numbers.proofs.Ends as S
use Rattle.span.specs.declared.shape.Span.{Span}
use Rattle.span.specs.Making.{at_most?}
use Rattle.span.specs.Holding.{Within}
use Rattle.sheet.specs.declared.shape.Bounds.{Bounds}
use Rattle.sheet.specs.declared.shape.Bounds.TheVariants.{AtLeast, AtMost, Between}
use Rattle.enclosure.specs.declared.shape.Judgement.{Judgement}
use Rattle.enclosure.specs.declared.shape.Judgement.TheVariants.{Met, Broken, Unsure}
use Rattle.enclosure.specs.Rows.{Meets}
use Rattle.span.specs.declared.shape.Reach.TheVariants.{Closed}
use Rattle.enclosure.specs.Sound.{Tells, row_tells}
use Rattle.enclosure.specs.Judging.{judgement, joined, at_least, at_most, judged_span}

judgement_met : {A B : Type 0} (a : Dec A) (b : Dec B) → A → judgement a b ≡ Met
judgement_met (yes h) b k = refl
judgement_met (no n) b k = absurd (n k)

judgement_broken : {A B : Type 0} (a : Dec A) (b : Dec B) → ¬ A → ¬ B → judgement a b ≡ Broken
judgement_broken (yes h) b k l = absurd (k h)
judgement_broken (no n) (yes h) k l = absurd (l h)
judgement_broken (no n) (no m) k l = refl

joined_broken : (j : Judgement) → joined j Broken ≡ Broken
joined_broken Met = refl
joined_broken Broken = refl
joined_broken Unsure = refl

at_least_met : (lo : ℤ) (s : Span) → lo ≤ℤ s.lo → at_least lo s ≡ Met
at_least_met lo s h = judgement_met (at_most? lo s.lo) (at_most? lo s.hi) h

at_most_met : (hi : ℤ) (s : Span) → s.hi ≤ℤ hi → at_most hi s ≡ Met
at_most_met hi s h = judgement_met (at_most? s.hi hi) (at_most? s.lo hi) h

at_least_broken : (lo : ℤ) (s : Span) → ¬ (lo ≤ℤ s.hi) → at_least lo s ≡ Broken
at_least_broken lo s n = judgement_broken (at_most? lo s.lo) (at_most? lo s.hi) (λ h. n (let o = s.ordered in omega (arith, ints))) n

at_most_broken : (hi : ℤ) (s : Span) → ¬ (s.lo ≤ℤ hi) → at_most hi s ≡ Broken
at_most_broken hi s n = judgement_broken (at_most? s.hi hi) (at_most? s.lo hi) (λ h. n (let o = s.ordered in omega (arith, ints))) n

module _ (N : Numbers) where
  open N use {carrier, le as ◌≼◌, le_trans}

  abbrev count : ℤ → carrier
  count m = V.count N m

  -- a count between the ends is held
  count_within : (s : Span) (m : ℤ) → s.lo ≤ℤ m → m ≤ℤ s.hi → Within N s (count m)
  count_within s m h k = record { low = le_trans (L.int_mono N h) (S.count_held N m).down; high = le_trans (S.count_held N m).up (L.int_mono N k) }

  -- the order of counts
  count_back : (a b : ℤ) → ◌≼◌ (count a) (count b) → a ≤ℤ b
  count_back a b h = L.int_back N (le_trans ((S.count_low N a (count b)).0 h) (S.count_held N b).up)

  count_mono : (a b : ℤ) → a ≤ℤ b → ◌≼◌ (count a) (count b)
  count_mono a b h = (S.count_low N a (count b)).1 (le_trans (L.int_mono N h) (S.count_held N b).down)

  abbrev lowest : (s : Span) → Within N s (count s.lo)
  lowest s = count_within s s.lo (≤ℤ_refl s.lo) s.ordered

  abbrev highest : (s : Span) → Within N s (count s.hi)
  highest s = count_within s s.hi s.ordered (≤ℤ_refl s.hi)

  met_by : (k : Bounds) (s : Span) → ((x : carrier) → Within N s x → Meets N k x) → judged_span k s ≡ Met
  met_by (AtLeast lo) s f = at_least_met lo s (count_back lo s.lo (f (count s.lo) (lowest s)))
  met_by (AtMost hi) s f = at_most_met hi s (count_back s.hi hi (f (count s.hi) (highest s)))
  met_by (Between t) s f = ap₂ joined (at_least_met t.lo s (count_back t.lo s.lo (f (count s.lo) (lowest s)).0)) (at_most_met t.hi s (count_back s.hi t.hi (f (count s.hi) (highest s)).1))

  broken_by : (k : Bounds) (s : Span) → ((x : carrier) → Within N s x → ¬ (Meets N k x)) → judged_span k s ≡ Broken
  broken_by (AtLeast lo) s f = at_least_broken lo s (λ h. f (count s.hi) (highest s) (count_mono lo s.hi h))
  broken_by (AtMost hi) s f = at_most_broken hi s (λ h. f (count s.lo) (lowest s) (count_mono s.lo hi h))
  broken_by (Between t) s f = by (at_most? t.lo s.hi) (at_most? s.lo t.hi)
    where
      by : Dec (t.lo ≤ℤ s.hi) → Dec (s.lo ≤ℤ t.hi) → joined (at_least t.lo s) (at_most t.hi s) ≡ Broken
      by (no n) d = ap (λ (j : Judgement). joined j (at_most t.hi s)) (at_least_broken t.lo s n)
      by (yes h) (no n) = ap (joined (at_least t.lo s)) (at_most_broken t.hi s n) ∙ joined_broken (at_least t.lo s)
      by (yes h) (yes k) =
          let o = s.ordered in
          let u = t.ordered in
          let m = int_max t.lo s.lo in
          absurd (f (count m) (count_within s m (omega (arith, ints, clamps)) (omega (arith, ints, clamps))) (count_mono t.lo m (omega (arith, ints, clamps)), count_mono m t.hi (omega (arith, ints, clamps))))

-- ---- the statements
abbrev pub MetExactly : Type 1
MetExactly = (N : Numbers) (k : Bounds) (s : Span) → (judged_span k s ≡ Met) ↔ ((v : N.carrier) → Within N s v → Meets N k v)

abbrev pub BrokenExactly : Type 1
BrokenExactly = (N : Numbers) (k : Bounds) (s : Span) → (judged_span k s ≡ Broken) ↔ ((v : N.carrier) → Within N s v → ¬ (Meets N k v))

pub met_exactly : MetExactly
met_exactly N k s = (λ e v h. subst (λ (j : Judgement). Tells j (Meets N k v)) e (row_tells N k (Closed s) v h), met_by N k s)

pub broken_exactly : BrokenExactly
broken_exactly N k s = (λ e v h. subst (λ (j : Judgement). Tells j (Meets N k v)) e (row_tells N k (Closed s) v h), broken_by N k s)
