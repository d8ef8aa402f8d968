-- Spans are equal when their ends are, and boxes when their spans are; when two ends make a span and when none.
use Rattle.std.proofs.Common.{◌≡◌, ℕ, ◌≤◌, length, ℤ, pos, negsuc, ◌≤ℤ◌, Some, None, Option, sym, refl, ap, arith, w32, SFits}
use mathlib.Core.HLevel.{is_prop→PathP}
use native.Mathlib.Nat.{ℕ_set}
use native.Mathlib.Bridge.{le_prop}
use Rattle.std.proofs.lemmas.Int.{ints}
use Rattle.std.specs.Prelude.{Decides, ◌&&◌}
use Rattle.std.specs.Ordering.{int_eq}
use Rattle.std.specs.Cmp.Lexicographic.{pointwise_decides}
use Rattle.std.proofs.lemmas.Bool.Decides.{Decides-and, Decides-eqb, Decides-int_eq}
use lib.Dec.{T_prop, eqb}
use lib.Pointwise.{pointwise}
use lib.Signed.{le_z}
use Rattle.span.specs.declared.shape.Span.{Span}
use Rattle.span.specs.declared.region.Region.{Region}
use Rattle.span.specs.Making.{Fit, fit?, closed, making, made}

pub ≤ℤ_prop : (a b : ℤ) → IsProp (a ≤ℤ b)
≤ℤ_prop a b p q = λ i. record { le = T_prop (le_z a b) p.le q.le i }

pub same_span : (s t : Span) → s.lo ≡ t.lo → s.hi ≡ t.hi → s ≡ t
same_span s t p q = λ i. record {
  lo = p i;
  hi = q i;
  ordered = is_prop→PathP (λ j. p j ≤ℤ q j) (λ j. ≤ℤ_prop (p j) (q j)) s.ordered t.ordered i;
  least = is_prop→PathP (λ j. negsuc 2147483646 ≤ℤ p j) (λ j. ≤ℤ_prop (negsuc 2147483646) (p j)) s.least t.least i;
  most = is_prop→PathP (λ j. q j ≤ℤ pos 2147483647) (λ j. ≤ℤ_prop (q j) (pos 2147483647)) s.most t.most i;
}

pub same_spans : {a b c d : Span} → a.lo ≡ c.lo → a.hi ≡ c.hi → b.lo ≡ d.lo → b.hi ≡ d.hi → ◌≡◌ {A = Span × Span} (a, b) (c, d)
same_spans {a} {b} {c} {d} p q r s = λ i. (same_span a c p q i, same_span b d r s i)

-- a closed span is the one made of its ends
pub made_closed : (s : Span) (a b : ℤ) → s.lo ≡ a → s.hi ≡ b → Some s ≡ made a b
made_closed s a b p q = by (fit? a b)
  where
    by : (d : Dec (Fit a b)) → Some s ≡ making a b d
    by (yes f) = ap Some (same_span s (closed a b f) p q)
    by (no n) = absurd (n (record { ordered = rw (← p, ← q) s.ordered; least = rw (← p) s.least; most = rw (← q) s.most }))

pub made_none : (a b : ℤ) → ¬ (Fit a b) → None ≡ made a b
made_none a b n = by (fit? a b)
  where
    by : (d : Dec (Fit a b)) → None ≡ making a b d
    by (yes f) = absurd (n f)
    by (no m) = refl

-- what is made of two ends has these ends, and where none is made they do not fit
pub made_is : (a b : ℤ) (s : Span) → made a b ≡ Some s → (s.lo ≡ a) × (s.hi ≡ b) × Fit a b
made_is a b s e = by (fit? a b) e
  where
    by : (d : Dec (Fit a b)) → making a b d ≡ Some s → (s.lo ≡ a) × (s.hi ≡ b) × Fit a b
    by (yes f) h =
        let i : ◌≡◌ {A = Option Span} (Some (closed a b f)) (Some s) = h in
        let c : closed a b f ≡ s = cc in
        (sym (ap (λ (t : Span). t.lo) c), sym (ap (λ (t : Span). t.hi) c), f)
    by (no n) h = let z : ◌≡◌ {A = ℕ} 0 1 = cc in absurd (omega arith)

pub none_made : (a b : ℤ) → made a b ≡ None → ¬ (Fit a b)
none_made a b e f = by (fit? a b) e
  where
    by : (d : Dec (Fit a b)) → making a b d ≡ None → ⊥
    by (yes g) h = let z : ◌≡◌ {A = ℕ} 0 1 = cc in omega arith
    by (no n) h = n f

pub same_region : (a b : Region) → a.n ≡ b.n → a.spans ≡ b.spans → a ≡ b
same_region a b p q = λ i. record {
  n = p i;
  spans = q i;
  some = is_prop→PathP (λ j. 1 ≤ p j) (λ j. le_prop) a.some b.some i;
  few = is_prop→PathP (λ j. p j ≤ 8) (λ j. le_prop) a.few b.few i;
  whole = is_prop→PathP (λ j. length (q j) ≡ 8) (λ j. ℕ_set (length (q j)) 8) a.whole b.whole i;
}

-- ---- the derived tests decide whether two spans, and two boxes, are the same
span_decided : (s t : Span) → Decides (int_eq s.lo t.lo && int_eq s.hi t.hi) (s ≡ t)
span_decided s t =
    let d = Decides-and (int_eq s.lo t.lo) (int_eq s.hi t.hi) (Decides-int_eq s.lo t.lo) (Decides-int_eq s.hi t.hi) in (
      λ e. same_span s t (d.0 e).0 (d.0 e).1,
      λ e. d.1 (ap (λ (u : Span). u.lo) e, ap (λ (u : Span). u.hi) e),
    )

pub region_decided : (a b : Region) → Decides (eqb a.n b.n && pointwise (λ (s t : Span). int_eq s.lo t.lo && int_eq s.hi t.hi) a.spans b.spans) (a ≡ b)
region_decided a b =
    let d = Decides-and _ _ (Decides-eqb a.n b.n) (pointwise_decides span_decided a.spans b.spans) in (
      λ e. same_region a b (d.0 e).0 (d.0 e).1,
      λ e. d.1 (ap (λ (c : Region). c.n) e, ap (λ (c : Region). c.spans) e),
    )

-- ---- ends are machine integers
pub lo_fits : (s : Span) → SFits w32 s.lo
lo_fits s = let a = s.ordered in let b = s.least in let c = s.most in omega (arith, ints)

pub hi_fits : (s : Span) → SFits w32 s.hi
hi_fits s = let a = s.ordered in let b = s.least in let c = s.most in omega (arith, ints)
