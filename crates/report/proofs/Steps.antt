-- The lines of a system one after another, the terms of row i by one row less, and the judgement by one row more.
use Rattle.std.proofs.Common.{◌≡◌, ℕ, suc, ◌+◌, ◌-◌, ◌<◌, ◌≤◌, List, [], ◌∷◌, map, length, get_or, take, drop, ℤ, sym, refl, ap, ◌∙◌, add-one, arith, drop_of_length-le, drop-cons}
use Rattle.span.specs.Reached.{Reach}
use Rattle.span.specs.declared.region.Region.{Region}
use Rattle.sheet.specs.declared.shape.Row.{Row}
use Rattle.sheet.specs.declared.shape.Term.{Term as Written}
use Rattle.enclosure.specs.declared.shape.Judgement.{Judgement}
use Rattle.enclosure.specs.declared.enclosure.Enclosure.{Ghosts}
use Rattle.enclosure.specs.Judging.{joined, judged_row}
use Rattle.enclosure.specs.Evaluation.{enclosed, judged}
use Rattle.enclosure.specs.Lines.{parts}
use Rattle.enclosure.specs.Rows.{Line, term, lines_from, own}
use Rattle.enclosure.proofs.Turns.{lined, lines_parts, judge_turn as part_judged, judged_done as no_part_judged}

pub line_turn : {Y : Type 0} (F : List Line → Y) (n : ℕ) (rows : List Row) (i : ℕ) (r : Row) (rest : List Written) → r ≡ get_or rows i r → i < length rows
    → F (lines_from n (drop i rows) rest) ≡ F (record { bounds = r.bounds; terms = map (term n) (take r.own rest) } ∷ lines_from n (drop (i + 1) rows) (drop r.own rest))
unfolding lines_from
line_turn F n rows i r rest e h = ap (λ (rs : List Row). F (lines_from n rs rest)) (drop-cons rows i r h ∙ ap (λ (q : Row). q ∷ drop (suc i) rows) (sym e)) ∙ rw add-one

pub lines_done : {Y : Type 0} (F : List Line → Y) (n : ℕ) (rows : List Row) (i : ℕ) (rest : List Written) → length rows ≤ i → F (lines_from n (drop i rows) rest) ≡ F []
unfolding lines_from
lines_done F n rows i rest h = ap (λ (rs : List Row). F (lines_from n rs rest)) (drop_of_length-le rows h)

-- one turn of the search for the terms of a row
pub own_there : (rows : List Row) (k : ℕ) (d : Row) (rest : List Written) → k < length rows → own (drop k rows) rest 0 ≡ take (get_or rows k d).own rest
unfolding own
own_there rows k d rest h = ap (λ (l : List Row). own l rest 0) (drop-cons rows k d h)

pub own_further : (rows : List Row) (k i : ℕ) (d : Row) (rest : List Written) → k < length rows → k < i → own (drop k rows) rest (i - k) ≡ own (drop (k + 1) rows) (drop (get_or rows k d).own rest) (i - (k + 1))
unfolding own
own_further rows k i d rest h l =
    let e : i - k ≡ suc (i - (k + 1)) = omega arith in
    rw e (ap (λ (m : List Row). own m rest (suc (i - (k + 1)))) (drop-cons rows k d h) ∙ rw add-one)

module _ {X : Type 0} (E : Ghosts X) (b : Region) (inside : ℕ → ℤ) where
  -- one turn of the judgement, over what its calls gave
  pub judge_turn : (n : ℕ) (rows : List Row) (i : ℕ) (w : Row) (rest own more : List Written) (a : Judgement) (r : X) (p : Reach) (j k : Judgement) → w ≡ get_or rows i w → i < length rows
      → own ≡ take w.own rest → more ≡ drop w.own rest → r ≡ enclosed E b inside (map (term n) own) → p ≡ E.spanned r → j ≡ judged_row w.bounds p → k ≡ joined a j
      → joined k (judged E b inside (lines_from n (drop (i + 1) rows) more)) ≡ joined a (judged E b inside (lines_from n (drop i rows) rest))
  judge_turn n rows i w rest own more a r p j k e h eo em er ep ej ek =
      let later = parts (drop (i + 1) rows) more in
      let same : lines_from n (drop (i + 1) rows) more ≡ map (lined n) later = lines_parts n (drop (i + 1) rows) more in
      ap (λ (ls : List Line). joined k (judged E b inside ls)) same
      ∙ part_judged E b inside n (w.bounds, own) ((w.bounds, own) ∷ later) later a r p j k refl er ep ej ek
      ∙ ap (λ (ls : List Line). joined a (judged E b inside (lined n (w.bounds, own) ∷ ls))) (sym same)
      ∙ rw (eo, em) (sym (line_turn (λ (ls : List Line). joined a (judged E b inside ls)) n rows i w rest e h))

  pub judged_done : (n : ℕ) (rows : List Row) (i : ℕ) (rest : List Written) (a : Judgement) → length rows ≤ i → joined a (judged E b inside (lines_from n (drop i rows) rest)) ≡ a
  judged_done n rows i rest a h = lines_done (λ (ls : List Line). joined a (judged E b inside ls)) n rows i rest h ∙ no_part_judged E b inside n [] a refl
