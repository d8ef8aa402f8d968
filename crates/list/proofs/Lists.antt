-- What is left of a list when its newest is taken away, and what one and two more are in a list that has the places.
use Rattle.std.proofs.Common.{◌≡◌, ℕ, suc, ◌+◌, ◌-◌, ◌≤◌, List as Seq, [], ◌∷◌, ◌++◌, length, get_or, take, drop, Some, sym, refl, ap, ◌∙◌, append_assoc, arith, length-append, take-suc, take-append-drop, lt-ltb}
use Rattle.list.specs.Lists.{Listed, holding, newest, older, added, free}

module _ {A : Type 0} where
  newest_end : (xs : Seq A) (x : A) → newest (xs ++ x ∷ []) ≡ Some x
  newest_end [] x = refl
  newest_end (y ∷ []) x = refl
  newest_end (y ∷ z ∷ zs) x = newest_end (z ∷ zs) x

  older_end : (xs : Seq A) (x : A) → older (xs ++ x ∷ []) ≡ xs
  older_end [] x = refl
  older_end (y ∷ []) x = refl
  older_end (y ∷ z ∷ zs) x = ap (λ (t : Seq A). y ∷ t) (older_end (z ∷ zs) x)

  -- the last of the k there are, by a read of it
  last_of : (k n : ℕ) (xs : Seq A) (x : A) → 1 ≤ k → n ≡ k - 1 → k ≤ length xs → take k xs ≡ take n xs ++ get_or xs n x ∷ []
  last_of k n xs x s e h = let l : k ≡ suc n = omega arith in rw l (take-suc xs n x (omega arith))

  pub pop_gives : (k n : ℕ) (xs : Seq A) (x : A) → 1 ≤ k → n ≡ k - 1 → k ≤ length xs → Some (get_or xs n x) ≡ newest (take k xs)
  pop_gives k n xs x s e h = sym (ap newest (last_of k n xs x s e h) ∙ newest_end (take n xs) (get_or xs n x))

  pub pop_holds : (k n : ℕ) (xs : Seq A) (x : A) → 1 ≤ k → n ≡ k - 1 → k ≤ length xs → take n xs ≡ older (take k xs)
  pop_holds k n xs x s e h = sym (ap older (last_of k n xs x s e h) ∙ older_end (take n xs) (get_or xs n x))

  -- the first element goes into an empty list that has a place
  pub first_added : (m : ℕ) (x : A) → 1 ≤ m → added m [] x ≡ x ∷ []
  first_added m x h = rw (lt-ltb 0 m h)

  -- two go into a list that has two free places
  pub two_added : (k : ℕ) (xs : Seq A) (x y : A) → 2 ≤ free k xs → added k (added k xs x) y ≡ xs ++ x ∷ y ∷ []
  two_added k xs x y h =
      let m : length (xs ++ x ∷ []) ≡ length xs + 1 = length-append xs (x ∷ []) in
      rw (lt-ltb (length xs) k (omega arith), lt-ltb (length (xs ++ x ∷ [])) k (omega arith)) (append_assoc xs (x ∷ []) (y ∷ []))

  -- a list whose places were p and are q: the first n of q are xs, and nothing behind them has changed
  pub holds : (p q : Seq A) (k n : ℕ) (xs : Seq A) → take n q ≡ xs → drop n q ≡ drop n p → length q ≡ length p → n ≡ length xs
      → ◌≡◌ {A = Listed A} (record { held = take n q; spare = drop n q; places = length q }) (holding (record { held = take k p; spare = drop k p; places = length p }) xs)
  holds p q k n xs first behind long count = λ i. record {
    held = first i;
    spare = (behind ∙ (λ j. drop (count j) (sym (take-append-drop k p) j))) i;
    places = long i;
  }
