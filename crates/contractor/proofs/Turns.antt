-- One round of a repeated contractor, and one turn of each splitting rule's loop.
use Rattle.std.proofs.Common.{◌≡◌, ℕ, zero, suc, ◌+◌, ◌-◌, ◌<◌, ◌≤◌, List, [], ◌∷◌, length, get_or, take, length-take-le, get_or-take, Bool, true, false, cond, ltb, Some, None, sym, refl, ap, ◌∙◌, add-one, arith, le-ltb, lt-ltb}
use Rattle.span.specs.declared.region.Region.{Region}
use Rattle.span.specs.Halves.{width}
use Rattle.std.specs.List.{position_from}
use Rattle.span.specs.declared.shape.Span.{Span}
use Rattle.span.specs.Regions.{nought, at}
use Rattle.sheet.specs.declared.system.System.{System}
use Rattle.contractor.specs.Laws.{Narrowing}
use Rattle.contractor.specs.Same.{same?}
use Rattle.contractor.specs.Layers.{until, unless_same}
use Rattle.contractor.specs.Rules.{first_from, first_of, widest_from, widest, TieBroken}

module _ (f : Narrowing) (s : System) (b : Region) where
  pub until_none : (j : ℕ) → 1 ≤ j → None ≡ f s b → until j f s b ≡ None
  unfolding until
  until_none zero h e = absurd (omega arith)
  until_none (suc j) h e = rw (← e)

  pub until_same : (j : ℕ) (c : Region) → 1 ≤ j → Some c ≡ f s b → c ≡ b → until j f s b ≡ Some c
  unfolding until
  until_same zero c h e p = absurd (omega arith)
  until_same (suc j) c h e p = rw (← e) (by (same? c b))
    where
      by : (d : Dec (c ≡ b)) → unless_same d c (until j f s c) ≡ Some c
      by (yes q) = refl
      by (no n) = absurd (n p)

  pub until_more : (j : ℕ) (c : Region) → Some c ≡ f s b → ¬ (c ≡ b) → until (suc j) f s b ≡ until j f s c
  unfolding until
  until_more j c e n = rw (← e) (by (same? c b))
    where
      by : (d : Dec (c ≡ b)) → unless_same d c (until j f s c) ≡ until j f s c
      by (yes q) = absurd (n q)
      by (no m) = refl

pub until_done : (j : ℕ) (f : Narrowing) (s : System) (b : Region) → j ≡ 0 → until j f s b ≡ Some b
unfolding until
until_done j f s b e = rw e

-- ---- the first
-- a search through spans that are those of the variables from i on
found_from : (t : ℕ) (b : Region) (ss : List Span) (i : ℕ) → ((j : ℕ) → j < length ss → get_or ss j nought ≡ at b (i + j)) → position_from (λ s. ltb t (width s)) i ss ≡ first_from t b (length ss) i
unfolding first_from
found_from t b [] i h = refl
found_from t b (s ∷ ss) i h =
    let e : s ≡ at b i = h 0 (omega arith) ∙ ap (at b) (omega arith) in
    let more : position_from (λ s. ltb t (width s)) (i + 1) ss ≡ first_from t b (length ss) (suc i) = found_from t b ss (i + 1) (λ j l. h (suc j) (omega arith) ∙ ap (at b) (omega arith)) ∙ ap (first_from t b (length ss)) (add-one i) in
    rw (e, more) refl

pub first_found : (t : ℕ) (b : Region) → position_from (λ s. ltb t (width s)) 0 (take b.n b.spans) ≡ first_of b t
first_found t b =
    let l : length (take b.n b.spans) ≡ b.n = length-take-le b.n b.spans (let f = b.few in let w = b.whole in omega arith) in
    found_from t b (take b.n b.spans) 0 (λ j h. get_or-take b.n b.spans j nought (omega arith) ∙ ap (at b) (omega arith)) ∙ ap (λ (k : ℕ). first_from t b k 0) l

-- ---- the widest
module _ (b : Region) (n i best v w : ℕ) (ev : v ≡ width (at b best)) (ew : w ≡ width (at b i)) where
  picked : (t : Bool) → ltb (width (at b best)) (width (at b i)) ≡ t → widest_from b (suc (n - (i + 1))) i best ≡ widest_from b (n - (i + 1)) (i + 1) (cond t i best)
  unfolding widest_from
  picked t e = ap (λ (u : Bool). widest_from b (n - (i + 1)) (suc i) (cond u i best)) e ∙ ap (λ (m : ℕ). widest_from b (n - (i + 1)) m (cond t i best)) (sym (add-one i))

  pub widest_found : i < n → v < w → widest_from b (n - i) i best ≡ widest_from b (n - (i + 1)) (i + 1) i
  unfolding widest_from
  widest_found h l = let k : n - i ≡ suc (n - (i + 1)) = omega arith in rw k (picked true (lt-ltb (width (at b best)) (width (at b i)) (rw (← ev, ← ew) l)))

  pub widest_passed : i < n → w ≤ v → widest_from b (n - i) i best ≡ widest_from b (n - (i + 1)) (i + 1) best
  unfolding widest_from
  widest_passed h l = let k : n - i ≡ suc (n - (i + 1)) = omega arith in rw k (picked false (le-ltb (width (at b best)) (width (at b i)) (rw (← ev, ← ew) l)))

pub widest_done : (b : Region) (n i best : ℕ) → n ≤ i → widest_from b (n - i) i best ≡ best
unfolding widest_from
widest_done b n i best h = let k : n - i ≡ 0 = omega arith in rw k

pub tie_broken : TieBroken
unfolding widest_from
tie_broken b e p q = (
  ap (λ (m : ℕ). cond (ltb 3 (width (at b m))) (Some m) None) first ∙ ap (λ (v : ℕ). cond (ltb 3 v) (Some 0) None) p,
  ap (λ (m : ℕ). cond (ltb 4 (width (at b m))) (Some m) None) first ∙ ap (λ (v : ℕ). cond (ltb 4 v) (Some 0) None) p,
)
  where
    first : widest b ≡ 0
    first = ap (λ (n : ℕ). widest_from b n 0 0) e ∙ ap (λ (t : Bool). widest_from b 1 1 (cond t 0 0)) (le-ltb (width (at b 0)) (width (at b 0)) (omega arith)) ∙ ap (λ (t : Bool). widest_from b 0 2 (cond t 1 0)) (le-ltb (width (at b 0)) (width (at b 1)) (omega arith))
