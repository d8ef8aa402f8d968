-- One turn of each loop of the evaluator and of the judgement.
use Rattle.std.proofs.Common.{◌≡◌, ℕ, suc, ◌+◌, ◌<◌, ◌≤◌, min, List, [], ◌∷◌, map, length, get_or, take, drop, ℤ, sym, refl, ap, ◌∙◌, add-one, arith, drop_of_length-le, length-take, take_all, drop-cons, get_or-take}
use native.Mathlib.Decide.{dec_le}
use Rattle.span.specs.Reached.{Reach}
use Rattle.sheet.specs.declared.shape.Row.{Row}
use Rattle.span.specs.declared.region.Region.{Region}
use Rattle.enclosure.specs.declared.shape.Judgement.{Judgement}
use Rattle.enclosure.specs.declared.shape.Judgement.TheVariants.{Met, Broken, Unsure}
use Rattle.enclosure.specs.declared.enclosure.Enclosure.{Ghosts}
use Rattle.enclosure.specs.Judging.{joined, judged_row}
use Rattle.enclosure.specs.Evaluation.{enclosed, judged}
use Rattle.sheet.specs.declared.shape.Term.{Term as Written}
use Rattle.sheet.specs.declared.system.System.{System}
use Rattle.enclosure.specs.declared.lines.Lines.{Lines}
use Rattle.enclosure.specs.declared.lines.Line.{Line as Taken}
use Rattle.enclosure.specs.Lines.{Part, parts, told, left}
use Rattle.std.specs.List.{slice_get}
use Rattle.std.specs.Prelude.{Option, Some, None, MatchOption, option_map}
use Prim.Native.Nat as Nat
use Rattle.enclosure.specs.Rows.{Ops, factors, term_of, terms_from, Line, term, lines_from, lines, own}

module _ {X : Type 0} (O : Ops X) (v : ℕ → X) where
  pub factors_turn : (a : X) (n i : ℕ) (es : List ℕ) → i < n → i < length es → factors O v a i (drop i (take n es)) ≡ factors O v (O.times a (O.power (v i) (get_or es i 0))) (i + 1) (drop (i + 1) (take n es))
  unfolding factors
  factors_turn a n i es h k =
      let l = length-take n es in
      let e = drop-cons (take n es) i 0 (omega arith) in
      let g = get_or-take n es i 0 h in
      ap (factors O v a i) e ∙ rw (g, add-one)

  pub factors_done : (a : X) (n i : ℕ) (es : List ℕ) → min n (length es) ≤ i → factors O v a i (drop i (take n es)) ≡ a
  unfolding factors
  factors_done a n i es h = ap (factors O v a i) (drop_of_length-le (take n es) (let e = length-take n es in omega arith))

  pub terms_turn : (a : X) (n i : ℕ) (ts : List Written) (d : Written) → i < length ts → terms_from O v a (map (term n) (drop i ts)) ≡ terms_from O v (O.plus a (term_of O v (term n (get_or ts i d)))) (map (term n) (drop (i + 1) ts))
  unfolding terms_from
  terms_turn a n i ts d h = ap (λ (l : List Written). terms_from O v a (map (term n) l)) (drop-cons ts i d h) ∙ rw add-one

  pub terms_done : (a : X) (n i : ℕ) (ts : List Written) → length ts ≤ i → terms_from O v a (map (term n) (drop i ts)) ≡ a
  unfolding terms_from
  terms_done a n i ts h = ap (λ (l : List Written). terms_from O v a (map (term n) l)) (drop_of_length-le ts h)

joined_assoc : (a b c : Judgement) → joined (joined a b) c ≡ joined a (joined b c)
joined_assoc Met b c = refl
joined_assoc Broken b c = refl
joined_assoc Unsure Met Met = refl
joined_assoc Unsure Met Broken = refl
joined_assoc Unsure Met Unsure = refl
joined_assoc Unsure Broken c = refl
joined_assoc Unsure Unsure Met = refl
joined_assoc Unsure Unsure Broken = refl
joined_assoc Unsure Unsure Unsure = refl

joined_met : (a : Judgement) → joined a Met ≡ a
joined_met Met = refl
joined_met Broken = refl
joined_met Unsure = refl

pub take_least : {A : Type 0} (n : ℕ) (xs : List A) → take (min n (length xs)) xs ≡ take n xs
take_least n xs = by (dec_le n (length xs))
  where
    by : Dec (n ≤ length xs) → take (min n (length xs)) xs ≡ take n xs
    by (yes h) = ap (λ (k : ℕ). take k xs) (omega arith)
    by (no k) = let h : length xs ≤ n = omega arith in let e : min n (length xs) ≡ length xs = omega arith in rw e (take_all (length xs) xs (omega arith) ∙ sym (take_all n xs h))

pub drop_least : {A : Type 0} (n : ℕ) (xs : List A) → drop (min n (length xs)) xs ≡ drop n xs
drop_least n xs = by (dec_le n (length xs))
  where
    by : Dec (n ≤ length xs) → drop (min n (length xs)) xs ≡ drop n xs
    by (yes h) = ap (λ (k : ℕ). drop k xs) (omega arith)
    by (no k) = let h : length xs ≤ n = omega arith in let e : min n (length xs) ≡ length xs = omega arith in rw e (drop_of_length-le xs (omega arith) ∙ sym (drop_of_length-le xs h))

-- ---- the rows of a system, one after another
-- a part as a row with its exponents of n variables
abbrev pub lined : ℕ → Part → Line
lined n p = record { bounds = p.0; terms = map (term n) p.1 }

pub lines_parts : (n : ℕ) (rows : List Row) (ts : List Written) → lines_from n rows ts ≡ map (lined n) (parts rows ts)
unfolding lines_from
lines_parts n [] ts = refl
lines_parts n (r ∷ rs) ts = ap (λ (ls : List Line). lined n (r.bounds, take r.own ts) ∷ ls) (lines_parts n rs (drop r.own ts))

-- the terms of a part, none where there is no part
abbrev pub terms_in : Option Part → List Written
terms_in None = []
terms_in (Some p) = p.1

pub own_part : (rows : List Row) (ts : List Written) (i : ℕ) → own rows ts i ≡ terms_in (slice_get (parts rows ts) i)
unfolding own
own_part [] ts i = refl
own_part (r ∷ rs) ts Nat.zero = refl
own_part (r ∷ rs) ts (suc i) = own_part rs (drop r.own ts) i

pub terms_told : (r : Option Taken) (ts : List Written) → MatchOption r (ts ≡ []) (λ l. ts ≡ l.terms.now) → ts ≡ terms_in (option_map told r)
terms_told None ts h = h
terms_told (Some l) ts h = h

-- the parts that are still to come are the rows of the system at first
pub lines_left : (n : ℕ) (l : Lines) (s : System) → n ≡ s.n → l.rows.now ≡ s.rows.now → l.terms.now ≡ s.terms.now → map (lined n) (left l) ≡ lines s
lines_left n l s e r t = rw (e, r, t) (sym (lines_parts s.n s.rows.now s.terms.now))

module _ {X : Type 0} (E : Ghosts X) (b : Region) (inside : ℕ → ℤ) where
  -- one turn of the judgement, over what its calls gave
  pub judge_turn : (n : ℕ) (p : Part) (all : List Part) (rest : List Part) (a : Judgement) (r : X) (q : Reach) (j k : Judgement) → all ≡ p ∷ rest
      → r ≡ enclosed E b inside (map (term n) p.1) → q ≡ E.spanned r → j ≡ judged_row p.0 q → k ≡ joined a j
      → joined k (judged E b inside (map (lined n) rest)) ≡ joined a (judged E b inside (map (lined n) all))
  unfolding judged
  judge_turn n p all rest a r q j k e er eq ej ek = rw (ek, ej, eq, er, e) (joined_assoc a _ _)

  pub judged_done : (n : ℕ) (rest : List Part) (a : Judgement) → rest ≡ [] → joined a (judged E b inside (map (lined n) rest)) ≡ a
  unfolding judged
  judged_done n rest a e = rw e (joined_met a)
