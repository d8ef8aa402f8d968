-- A box with another span, and the box of a list of spans, as the code makes them.
use Rattle.std.proofs.Common.{◌≡◌, ℕ, ◌<◌, ◌≤◌, Bool, true, false, cond, ltb, ◌≢◌, List, [], ◌∷◌, ◌++◌, map, length, drop, replicate, pos, Some, sym, refl, ap, ◌∙◌, arith, get_or-set_other, get_or-set_same, le-ltb, lt-ltb}
use native.Mathlib.Decide.{dec_le}
use Rattle.std.proofs.lemmas.List.{ext_get_or, get_or-map, drop-replicate, length-map}
use Rattle.std.specs.Array.{IsMapOf}
use Rattle.std.specs.Fn.{Called}
use denote.Param.Members.{Mut}
use Rattle.span.specs.declared.shape.Span.{Span}
use Rattle.span.specs.declared.region.Region.{Region}
use Rattle.span.specs.Regions.{nought, at, put, with_span, padded, boxing, boxed}
use Rattle.span.proofs.Alike.{same_span, same_region}

-- ---- a box with another span
pub with_there : (b : Region) (j : ℕ) (s : Span) → j < b.n → with_span b j s ≡ put b j s
with_there b j s h = rw (lt-ltb j b.n h)

pub with_past : (b : Region) (j : ℕ) (s : Span) → b.n ≤ j → with_span b j s ≡ b
with_past b j s h = rw (le-ltb j b.n h)

pub at_same : (b : Region) (j : ℕ) (s : Span) → j < b.n → at (with_span b j s) j ≡ s
at_same b j s h = ap (λ (c : Region). at c j) (with_there b j s h) ∙ get_or-set_same b.spans j s nought (let f = b.few in let w = b.whole in omega arith)

pub at_other : (b : Region) (i j : ℕ) (s : Span) → i ≢ j → at (with_span b j s) i ≡ at b i
at_other b i j s d = by (ltb j b.n)
  where
    by : (t : Bool) → at (cond t (put b j s) b) i ≡ at b i
    by true = get_or-set_other b.spans j i s nought d
    by false = refl

pub same_n : (b : Region) (j : ℕ) (s : Span) → (with_span b j s).n ≡ b.n
same_n b j s = by (ltb j b.n)
  where
    by : (t : Bool) → (cond t (put b j s) b).n ≡ b.n
    by true = refl
    by false = refl

-- ---- the box of a list of spans
-- the spans, copied to the front of eight places that hold [0, 0]
pub padded_by : (ss cs : List Span) (o : Span) → cs ≡ ss → o.lo ≡ pos 0 → o.hi ≡ pos 0 → cs ++ drop (length ss) (replicate 8 o) ≡ padded ss
padded_by ss cs o e l h = rw (e, same_span o nought l h, drop-replicate (length ss) 8 nought) refl

pub boxed_of : (ss : List Span) (r : Region) → 1 ≤ length ss → length ss ≤ 8 → r.n ≡ length ss → r.spans ≡ padded ss → Some r ≡ boxed ss
boxed_of ss r h k p q = by (dec_le 1 (length ss)) (dec_le (length ss) 8)
  where
    by : (d : Dec (1 ≤ length ss)) (e : Dec (length ss ≤ 8)) → Some r ≡ boxing ss d e
    by (yes u) (yes v) = ap Some (same_region r _ p q)
    by (yes u) (no n) = absurd (n k)
    by (no n) e = absurd (n h)

-- ---- the lower middles
-- what a call at each of n elements gave, where each call gives f of its element
pub mapped : {F A B : Type 0} (g : Mut F (A × Unit {0}) B) (f : A → B) (s : F) (xs : List A) (ys : List B) (n : ℕ) → length xs ≡ n → ((p q : F) (x : A) (y : B) → Called g p (x, tt) y q → y ≡ f x) → IsMapOf g s xs ys n → ys ≡ map f xs
mapped g f s [] [] n l h m = refl
mapped g f s [] (y ∷ ys) n l h m = let k = m.long in absurd (omega arith)
mapped g f s (x ∷ xs) ys n l h m =
    let k : length ys ≡ length (map f (x ∷ xs)) = m.long ∙ sym l ∙ sym (length-map (x ∷ xs) f) in
    ext_get_or (f x) ys (map f (x ∷ xs)) k (λ i b. let o : i < length (x ∷ xs) = omega (arith, m.long) in let c = m.at i x (f x) (omega arith) in h c.0 c.1 _ _ c.2 ∙ sym (get_or-map f (x ∷ xs) i x (f x) o))
