-- What the code of the row test and of the pass gives on each way.
use Rattle.std.proofs.Common.{◌≡◌, ℕ, suc, ◌+◌, ◌-◌, ◌<◌, ◌≤◌, true, false, List, [], ◌∷◌, map, Some, None, Option, refl, ap, ◌∙◌, add-one, arith}
use Rattle.span.specs.declared.shape.Span.{Span}
use Rattle.span.specs.Reached.{Reach}
use Rattle.arithmetic.specs.Reaches.{difference, quotient, within}
use Rattle.span.specs.declared.region.Region.{Region}
use Rattle.span.specs.Regions.{at}
use Rattle.enclosure.specs.declared.shape.Judgement.{Judgement}
use Rattle.enclosure.specs.Rows.{Line, term}
use Rattle.enclosure.specs.Judging.{judged_row}
use Rattle.enclosure.specs.Plain.{plain_row}
use Rattle.enclosure.specs.declared.shape.Judgement.TheVariants.{Met, Broken, Unsure}
use Rattle.enclosure.specs.Lines.{Part}
use Rattle.enclosure.proofs.Turns.{lined}
use Rattle.contractor.specs.Steps.{bind}
use Rattle.narrowing.specs.Tests.{unless_broken, tested}
use Rattle.narrowing.specs.Passes.{occurs, holding, others, target, replaced, aimed, narrowed_at, line, narrowed_from, passed}

pub skipped : (l : Line) (j : ℕ) (b : Region) → occurs j l.terms ≡ false → Some b ≡ narrowed_at l j b
unfolding narrowed_at
skipped l j b h = rw h

module _ (l : Line) (j : ℕ) (b : Region) (h : occurs j l.terms ≡ true) (whole : Reach) (w : whole ≡ plain_row b l.terms) where
  pub no_target : None ≡ target l.bounds whole → None ≡ narrowed_at l j b
  unfolding narrowed_at
  no_target e = rw h (ap (aimed b l.terms j) (e ∙ ap (target l.bounds) w))

  pub aimed_at : (t a r m x : Reach) (s : Span) → Some t ≡ target l.bounds whole → a ≡ plain_row b (holding j l.terms) → r ≡ plain_row b (others j l.terms) → m ≡ difference t r → x ≡ quotient m a → s ≡ at b j → replaced b j (within s x) ≡ narrowed_at l j b
  unfolding narrowed_at
  aimed_at t a r m x s e ea er em ex es = rw h (rw (es, ex, em, ea, er) (ap (aimed b l.terms j) (e ∙ ap (target l.bounds) w)))

-- ---- the loops
module _ (l : Line) (n j : ℕ) (b : Region) (f : Region → Option Region) where
  pub variable_none : j < n → None ≡ narrowed_at l j b → None ≡ bind (narrowed_from l (n - j) j b) f
  unfolding narrowed_from
  variable_none h e = let k : n - j ≡ suc (n - (j + 1)) = omega arith in rw (k, ← e)

  pub variable_some : (c : Region) → j < n → Some c ≡ narrowed_at l j b → bind (narrowed_from l (n - (j + 1)) (j + 1) c) f ≡ bind (narrowed_from l (n - j) j b) f
  unfolding narrowed_from
  variable_some c h e = let k : n - j ≡ suc (n - (j + 1)) = omega arith in rw (k, ← e, add-one)

  pub variables_done : n ≤ j → f b ≡ bind (narrowed_from l (n - j) j b) f
  unfolding narrowed_from
  variables_done h = let k : n - j ≡ 0 = omega arith in rw k

-- the part p comes next, and the parts rest behind it
module _ (n : ℕ) (all : List Part) (b : Region) where
  module _ (p : Part) (rest : List Part) (e : all ≡ p ∷ rest) where
    pub row_turn : bind (narrowed_from (line n p.0 p.1) n 0 b) (passed n (map (lined n) rest)) ≡ passed n (map (lined n) all) b
    unfolding passed
    row_turn = rw e

    pub test_turn : (whole : Reach) (j : Judgement) → whole ≡ plain_row b (map (term n) p.1) → j ≡ judged_row p.0 whole → unless_broken j (tested (map (lined n) rest) b) ≡ tested (map (lined n) all) b
    unfolding tested
    test_turn whole j ew ej = rw (ej, ew, e)

  pub rows_done : all ≡ [] → passed n (map (lined n) all) b ≡ Some b
  unfolding passed
  rows_done e = rw e

  pub tested_done : all ≡ [] → tested (map (lined n) all) b ≡ Some b
  unfolding tested
  tested_done e = rw e

-- a judgement that is not broken lets the others decide
pub not_broken : (j : Judgement) (o : Option Region) → (j ≡ Broken → ⊥) → unless_broken j o ≡ o
not_broken Met o n = refl
not_broken Unsure o n = refl
not_broken Broken o n = absurd (n refl)
