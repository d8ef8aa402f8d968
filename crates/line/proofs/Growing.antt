-- A line that grows piece by piece.
use Rattle.std.proofs.Common.{◌≡◌, ℕ, List, [], ◌++◌, sym, ap, ◌∙◌, append_assoc}
use Rattle.std.proofs.lemmas.List.{append-nil}

-- one piece of what was left is written; more is left
pub turn : (new old piece rest more all : List ℕ) → new ≡ old ++ piece → rest ≡ piece ++ more → old ++ rest ≡ all → new ++ more ≡ all
turn new old piece rest more all e f h = rw e (append_assoc old piece more ∙ ap (λ (xs : List ℕ). old ++ xs) (sym f) ∙ h)

-- nothing is left
pub done : (line rest all : List ℕ) → rest ≡ [] → line ++ rest ≡ all → line ≡ all
done line rest all e h = sym (append-nil line) ∙ ap (λ (xs : List ℕ). line ++ xs) (sym e) ∙ h

-- one piece after another
pub two : (line mid old p q : List ℕ) → mid ≡ old ++ p → line ≡ mid ++ q → line ≡ old ++ (p ++ q)
two line mid old p q e f = f ∙ rw e (append_assoc old p q)
