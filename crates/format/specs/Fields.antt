-- The field reader: a field and what is left after it, or a fault with the field's place.
use Rattle.std.specs.Prelude.{ℕ, ◌+◌, ◌*◌, Bool, cond, ◌&&◌, ◌||◌, List, [], ◌∷◌, length, take, drop, Some, None, Ok, Err, Option, Result, ◌==◌, nat_le}
use Rattle.format.specs.declared.fault.FieldFault.{FieldFault}
use Rattle.format.specs.declared.fault.FieldFault.TheVariants.{Short, UnknownTag, WrongLength}
use Rattle.format.specs.Written.{FieldKind, a_variable, a_tolerance, a_row, a_term, an_end}

pub record Cut : Type 0 where
  pub kind : FieldKind
  pub content : List ℕ
  pub rest : List ℕ

abbrev pub kind_of : ℕ → Option FieldKind
kind_of t = cond (t == 1) (Some a_variable) (cond (t == 4) (Some a_tolerance) (cond (t == 2) (Some a_row) (cond (t == 3) (Some a_term) (cond (t == 9) (Some an_end) None))))

-- the lengths of each kind, n variables being read so far
abbrev pub right_length : ℕ → FieldKind → ℕ → Bool
right_length n a_variable l = nat_le 13 l && nat_le l 20
right_length n a_tolerance l = l == 4
right_length n a_row l = l == 5 || l == 9
right_length n a_term l = l == 4 + n
right_length n an_end l = l == 0

-- by the tag's kind; xs is what the length counts, and rest what stands behind
abbrev pub kinded : ℕ → ℕ → List ℕ → List ℕ → Option FieldKind → Result Cut FieldFault
kinded n p xs rest None = Err (UnknownTag p)
kinded n p xs rest (Some k) = cond (right_length n k (length xs)) (Ok (record { kind = k; content = xs; rest = rest })) (Err (WrongLength p))

abbrev pub cut : ℕ → ℕ → ℕ → ℕ → List ℕ → Result Cut FieldFault
cut n p t l xs = cond (nat_le l (length xs)) (kinded n p (take l xs) (drop l xs) (kind_of t)) (Err (Short p))

-- n: the variables read so far; p: the field's place
abbrev pub read_field : ℕ → ℕ → List ℕ → Result Cut FieldFault
read_field n p [] = Err (Short p)
read_field n p (t ∷ []) = Err (Short p)
read_field n p (t ∷ high ∷ []) = Err (Short p)
read_field n p (t ∷ high ∷ low ∷ xs) = cut n p t (256 * high + low) xs
