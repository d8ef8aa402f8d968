-- Steps that narrow a box, one after another.
use Rattle.std.specs.Prelude.{◌≡◌, ℕ, IfSome, Some, None, Option, MatchOption, refl}
use Rattle.std.proofs.Common.{arith, ◌∙◌}
use Rattle.std.specs.Int.Signed.{≤ℤ_refl}
use Rattle.std.proofs.lemmas.Int.{ints}
use Rattle.numbers.specs.Numbers.{Numbers}
use Rattle.span.specs.declared.shape.Span.{Span}
use Rattle.span.specs.declared.region.Region.{Region}
use Rattle.span.specs.Holding.{Inside}
use Rattle.span.specs.Regions.{at, In, Narrower}

-- the answer is given to f, and none stays none
abbrev pub bind : Option Region → (Region → Option Region) → Option Region
bind None f = None
bind (Some b) f = f b

-- over n variables f narrows a box and keeps every point of which P holds
pub record Narrows (n : ℕ) (P : (N : Numbers) → (ℕ → N.carrier) → Type 0) (f : Region → Option Region) : Type 1 where
  pub within : (b : Region) → b.n ≡ n → IfSome (f b) (λ c. Narrower c b)
  pub keeps : (N : Numbers) (b : Region) → b.n ≡ n → (x : ℕ → N.carrier) → In N x b → P N x → MatchOption (f b) ⊥ (λ c. In N x c)

pub inside_trans : (r s t : Span) → Inside r s → Inside s t → Inside r t
inside_trans r s t h k = let a = h.0 in let b = h.1 in let c = k.0 in let d = k.1 in (omega (arith, ints), omega (arith, ints))

pub within_trans : (d c b : Region) → Narrower d c → Narrower c b → Narrower d b
within_trans d c b h k = record { same = h.same ∙ k.same; inside = λ i l. inside_trans (at d i) (at c i) (at b i) (h.inside i (let e = k.same in omega arith)) (k.inside i l) }

pub within_refl : (b : Region) → Narrower b b
within_refl b = record { same = refl; inside = λ i l. (≤ℤ_refl (at b i).lo, ≤ℤ_refl (at b i).hi) }

-- the box as it is
pub narrows_stay : (n : ℕ) (P : (N : Numbers) → (ℕ → N.carrier) → Type 0) → Narrows n P (λ b. Some b)
narrows_stay n P = record { within = λ b e. within_refl b; keeps = λ N b e x i p. i }

-- a step that keeps more points keeps these
pub narrows_more : {n : ℕ} {P : (N : Numbers) → (ℕ → N.carrier) → Type 0} {f : Region → Option Region} (Q : (N : Numbers) → (ℕ → N.carrier) → Type 0) → ((N : Numbers) (x : ℕ → N.carrier) → Q N x → P N x) → Narrows n P f → Narrows n Q f
narrows_more Q l s = record { within = s.within; keeps = λ N b e x i q. s.keeps N b e x i (l N x q) }

within_bind : (n : ℕ) (b : Region) (o : Option Region) (g : Region → Option Region) → ((c : Region) → c.n ≡ n → IfSome (g c) (λ d. Narrower d c)) → b.n ≡ n → IfSome o (λ c. Narrower c b) → IfSome (bind o g) (λ c. Narrower c b)
within_bind n b None g l e h = tt
within_bind n b (Some c) g l e h = go (g c) (l c (h.same ∙ e))
  where
    go : (o : Option Region) → IfSome o (λ d. Narrower d c) → IfSome o (λ d. Narrower d b)
    go None u = tt
    go (Some d) u = within_trans d c b u h

keeps_bind : (n : ℕ) (N : Numbers) (x : ℕ → N.carrier) (b : Region) (o : Option Region) (g : Region → Option Region) → ((c : Region) → c.n ≡ n → In N x c → MatchOption (g c) ⊥ (λ d. In N x d)) → b.n ≡ n → IfSome o (λ c. Narrower c b) → MatchOption o ⊥ (λ c. In N x c) → MatchOption (bind o g) ⊥ (λ c. In N x c)
keeps_bind n N x b None g l e w h = h
keeps_bind n N x b (Some c) g l e w h = l c (w.same ∙ e) h

-- one step after another
pub narrows_then : {n : ℕ} {P : (N : Numbers) → (ℕ → N.carrier) → Type 0} {f g : Region → Option Region} → Narrows n P f → Narrows n P g → Narrows n P (λ b. bind (f b) g)
narrows_then {n} {P} {f} {g} lf lg = record {
  within = λ b e. within_bind n b (f b) g lg.within e (lf.within b e);
  keeps = λ N b e x i p. keeps_bind n N x b (f b) g (λ c e' i'. lg.keeps N c e' x i' p) e (lf.within b e) (lf.keeps N b e x i p);
}
