-- Lists: the newest element, and what holds of some or of all.
use Rattle.std.proofs.Common.{◌≡◌, ℕ, ◌+◌, ◌-◌, ◌*◌, ◌⊎◌, List, [], ◌∷◌, ◌++◌, Some, refl, ap, inl, inr, arith}
use Rattle.std.specs.List.{AllByRecursion}
use Rattle.span.specs.declared.region.Region.{Region}
use Rattle.runlaw.specs.Sizes.{size}
use Rattle.list.specs.Lists.{newest, newest_of, older, older_of}
use Rattle.runlaw.specs.Soundness.{Any}

module _ {A : Type 0} where
  last_of : (x : A) (xs : List A) → x ∷ xs ≡ older_of x xs ++ newest_of x xs ∷ []
  last_of x [] = refl
  last_of x (y ∷ ys) = ap (λ (t : List A). x ∷ t) (last_of y ys)

  -- a list ends in its newest element
  pub ends_in_newest : (xs : List A) (b : A) → newest xs ≡ Some b → xs ≡ older xs ++ b ∷ []
  ends_in_newest [] b e = let z : ◌≡◌ {A = ℕ} 0 1 = cc in absurd (omega arith)
  ends_in_newest (x ∷ xs) b e = let f : newest_of x xs ≡ b = cc in rw (← f) (last_of x xs)

  pub any_left : (P : A → Type 0) (xs ys : List A) → Any P xs → Any P (xs ++ ys)
  any_left P [] ys h = absurd h
  any_left P (x ∷ xs) ys (inl h) = inl h
  any_left P (x ∷ xs) ys (inr h) = inr (any_left P xs ys h)

  pub any_right : (P : A → Type 0) (xs ys : List A) → Any P ys → Any P (xs ++ ys)
  any_right P [] ys h = h
  any_right P (x ∷ xs) ys h = inr (any_right P xs ys h)

  pub any_cases : (P : A → Type 0) (xs ys : List A) → Any P (xs ++ ys) → Any P xs ⊎ Any P ys
  any_cases P [] ys h = inr h
  any_cases P (x ∷ xs) ys (inl h) = inl (inl h)
  any_cases P (x ∷ xs) ys (inr h) = go (any_cases P xs ys h)
    where
      go : Any P xs ⊎ Any P ys → (P x ⊎ Any P xs) ⊎ Any P ys
      go (inl a) = inl (inr a)
      go (inr a) = inr a

  pub all_left : (P : A → Type 0) (xs ys : List A) → AllByRecursion P (xs ++ ys) → AllByRecursion P xs
  all_left P [] ys h = tt
  all_left P (x ∷ xs) ys h = (h.0, all_left P xs ys h.1)

  pub all_right : (P : A → Type 0) (xs ys : List A) → AllByRecursion P (xs ++ ys) → AllByRecursion P ys
  all_right P [] ys h = h
  all_right P (x ∷ xs) ys h = all_right P xs ys h.1

-- how many settles the boxes still can bring
abbrev pub weight : Region → ℕ
weight b = 2 * size b - 1

abbrev pub weights : List Region → ℕ
weights [] = 0
weights (b ∷ bs) = weight b + weights bs

pub weights_append : (xs ys : List Region) → weights (xs ++ ys) ≡ weights xs + weights ys
weights_append [] ys = omega arith
weights_append (x ∷ xs) ys = let e = weights_append xs ys in omega arith
