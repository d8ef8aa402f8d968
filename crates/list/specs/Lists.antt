-- A list over lent places, for every kind of element: what it holds, oldest first, and what each call leaves.
use Rattle.std.specs.Prelude.{ℕ, ◌-◌, Bool, cond, List as Seq, [], ◌∷◌, ◌++◌, length, drop, Some, None, Option, nat_le, nat_lt}

-- a list: what it holds, what stands in the places behind that, and how many places it lies over
pub record Listed (T : Type 0) : Type 0 where
  pub held : Seq T
  pub spare : Seq T
  pub places : ℕ

module _ {T : Type 0} where
  abbrev pub items : Listed T → Seq T
  items l = l.held

  abbrev pub room : Listed T → ℕ
  room l = l.places

  -- nothing, over these places
  abbrev pub empty : Seq T → Listed T
  empty places = record { held = []; spare = places; places = length places }

  -- these in the first places of l, and behind them what stood there
  abbrev pub holding : Listed T → Seq T → Listed T
  holding l xs = record { held = xs; spare = drop (length xs) (l.held ++ l.spare); places = l.places }

  -- the newest of what is held, and the rest
  abbrev pub newest_of : T → Seq T → T
  newest_of x [] = x
  newest_of x (y ∷ ys) = newest_of y ys

  abbrev pub newest : Seq T → Option T
  newest [] = None
  newest (x ∷ xs) = Some (newest_of x xs)

  abbrev pub older_of : T → Seq T → Seq T
  older_of x [] = []
  older_of x (y ∷ ys) = x ∷ older_of y ys

  abbrev pub older : Seq T → Seq T
  older [] = []
  older (x ∷ xs) = older_of x xs

  -- is there a place for one more
  abbrev pub has_room : ℕ → Seq T → Bool
  has_room places xs = nat_lt (length xs) places

  -- one more at the end; a full list stays as it is
  abbrev pub added : ℕ → Seq T → T → Seq T
  added places xs x = cond (has_room places xs) (xs ++ x ∷ []) xs

  -- how many places are free
  abbrev pub free : ℕ → Seq T → ℕ
  free places xs = places - length xs

  -- is there a place for each of new
  abbrev pub fits : ℕ → Seq T → Bool
  fits places new = nat_le (length new) places

  -- new in the first places, what stood behind them still behind them; or all as it was
  abbrev pub fronted : Seq T → Seq T → Seq T
  fronted places new = cond (fits (length places) new) (new ++ drop (length new) places) places

  -- new in place of old, or old where new has no place
  abbrev pub replaced : ℕ → Seq T → Seq T → Seq T
  replaced places old new = cond (fits places new) new old
