-- The sheet reader.
use Rattle.std.specs.Prelude.{ℕ, zero, suc, ◌+◌, ◌*◌, Bool, true, false, cond, ◌&&◌, ◌||◌, List, [], ◌∷◌, ◌++◌, length, drop, ℤ, Some, None, Ok, Err, Option, Result, ◌==◌, int_le, nat_le, nat_lt, slice_index}
use Rattle.std.proofs.Common.{to_z}
use Rattle.std.specs.Int.{w32}
use Rattle.std.specs.Str.{bytes_eq}
use Rattle.format.specs.declared.fault.FieldFault.{FieldFault}
use Rattle.format.specs.declared.fault.FieldFault.TheVariants.{Short}
use Rattle.format.specs.declared.fault.SheetFault.{SheetFault}
use Rattle.format.specs.declared.fault.SheetFault.TheVariants.{TooLong, Field, NotAllowed, TooMany, OutOfRange, NameTaken, Trailing, NoRoom}
use Rattle.numbers.specs.Rows.{Term, degree}
use Rattle.span.specs.Making.{is_count}
use Rattle.format.specs.Content.{GivenVariable, GivenRow, Content, Limits, at_least, at_most, between, term_total}
use Rattle.format.specs.Written.{FieldKind, a_variable, a_tolerance, a_row, a_term, an_end}
use Rattle.format.specs.Fields.{Cut, read_field}

-- the number in the first four bytes
abbrev pub number_in : List ℕ → ℕ
number_in xs = slice_index xs 0 * 16777216 + slice_index xs 1 * 65536 + slice_index xs 2 * 256 + slice_index xs 3

abbrev pub count_in : List ℕ → ℤ
count_in xs = to_z w32 (number_in xs)

abbrev pub variable_in : List ℕ → GivenVariable
variable_in xs = record { lo = count_in xs; hi = count_in (drop 4 xs); nominal = count_in (drop 8 xs); name = drop 12 xs }

abbrev pub term_in : List ℕ → Term
term_in xs = record { coefficient = count_in xs; exponents = drop 4 xs }

-- by the kind byte and whether the length is 5
abbrev pub limits_by : ℕ → Bool → List ℕ → Option Limits
limits_by b true xs = cond (b == 1) (Some (at_least (count_in xs))) (cond (b == 2) (Some (at_most (count_in xs))) None)
limits_by b false xs = cond (b == 3) (Some (between (count_in xs) (count_in (drop 4 xs)))) None

abbrev pub limits_in : List ℕ → Option Limits
limits_in xs = limits_by (slice_index xs 0) (length xs == 5) (drop 1 xs)

abbrev pub is_letter : ℕ → Bool
is_letter b = (nat_le 65 b && nat_le b 90) || (nat_le 48 b && nat_le b 57)

abbrev pub are_letters : List ℕ → Bool
are_letters [] = true
are_letters (b ∷ bs) = is_letter b && are_letters bs

abbrev pub well_placed : GivenVariable → Bool
well_placed v = int_le v.lo v.nominal && (int_le v.nominal v.hi && are_letters v.name)

abbrev pub good_variable : GivenVariable → Bool
good_variable v = is_count v.lo && (is_count v.hi && (is_count v.nominal && well_placed v))

abbrev pub good_term : Term → Bool
good_term t = is_count t.coefficient && nat_le (degree t.exponents) 4

abbrev pub good_limits : Limits → Bool
good_limits (at_least lo) = is_count lo
good_limits (at_most hi) = is_count hi
good_limits (between lo hi) = is_count lo && (is_count hi && int_le lo hi)

-- the name stands in the list already
abbrev pub taken : List ℕ → List GivenVariable → Bool
taken name [] = false
taken name (v ∷ vs) = bytes_eq v.name name || taken name vs

-- what was read so far, by the state: nothing; variables; the tolerance; a row with no term yet; a row with terms.
-- rs: the rows before the one that is being read
pub data Draft : Type 0 where
  start : Draft
  variables : List GivenVariable → Draft
  tolerance : List GivenVariable → ℕ → Draft
  row : List GivenVariable → ℕ → List GivenRow → Limits → Draft
  terms : List GivenVariable → ℕ → List GivenRow → Limits → List Term → Draft

abbrev pub variable_count : Draft → ℕ
variable_count start = 0
variable_count (variables vs) = length vs
variable_count (tolerance vs t) = length vs
variable_count (row vs t rs k) = length vs
variable_count (terms vs t rs k ts) = length vs

-- what one field does
pub data Step : Type 0 where
  goes_on : Draft → Step
  ends : Content → Step
  stops : SheetFault → Step

abbrev pub add_variable : List GivenVariable → ℕ → GivenVariable → Step
add_variable vs p v = cond (nat_le 8 (length vs)) (stops (TooMany p)) (cond (good_variable v) (cond (taken v.name vs) (stops (NameTaken p)) (goes_on (variables (vs ++ v ∷ [])))) (stops (OutOfRange p)))

abbrev pub set_tolerance : List GivenVariable → ℕ → ℕ → Step
set_tolerance vs p t = cond (nat_le 1 t && nat_le t 2147483647) (goes_on (tolerance vs t)) (stops (OutOfRange p))

abbrev pub kept_limits : List GivenVariable → ℕ → List GivenRow → ℕ → Option Limits → Step
kept_limits vs t rs p None = stops (OutOfRange p)
kept_limits vs t rs p (Some k) = cond (good_limits k) (goes_on (row vs t rs k)) (stops (OutOfRange p))

abbrev pub add_row : List GivenVariable → ℕ → List GivenRow → ℕ → Option Limits → Step
add_row vs t rs p o = cond (nat_le 16 (length rs)) (stops (TooMany p)) (kept_limits vs t rs p o)

abbrev pub add_term : List GivenVariable → ℕ → List GivenRow → Limits → List Term → ℕ → Term → Step
add_term vs t rs k ts p x = cond (nat_le 12 (length ts)) (stops (TooMany p)) (cond (good_term x) (goes_on (terms vs t rs k (ts ++ x ∷ []))) (stops (OutOfRange p)))

-- the rows with the one that is being read
abbrev pub closed : List GivenRow → Limits → List Term → List GivenRow
closed rs k ts = rs ++ (record { limits = k; terms = ts }) ∷ []

-- what may follow: first 1; after 1, 1 or 4; after 4, 2; after 2, 3; after 3, 2, 3 or 9
abbrev pub step : Draft → ℕ → FieldKind → List ℕ → Step
step start p a_variable xs = add_variable [] p (variable_in xs)
step start p a_tolerance xs = stops (NotAllowed p)
step start p a_row xs = stops (NotAllowed p)
step start p a_term xs = stops (NotAllowed p)
step start p an_end xs = stops (NotAllowed p)
step (variables vs) p a_variable xs = add_variable vs p (variable_in xs)
step (variables vs) p a_tolerance xs = set_tolerance vs p (number_in xs)
step (variables vs) p a_row xs = stops (NotAllowed p)
step (variables vs) p a_term xs = stops (NotAllowed p)
step (variables vs) p an_end xs = stops (NotAllowed p)
step (tolerance vs t) p a_variable xs = stops (NotAllowed p)
step (tolerance vs t) p a_tolerance xs = stops (NotAllowed p)
step (tolerance vs t) p a_row xs = add_row vs t [] p (limits_in xs)
step (tolerance vs t) p a_term xs = stops (NotAllowed p)
step (tolerance vs t) p an_end xs = stops (NotAllowed p)
step (row vs t rs k) p a_variable xs = stops (NotAllowed p)
step (row vs t rs k) p a_tolerance xs = stops (NotAllowed p)
step (row vs t rs k) p a_row xs = stops (NotAllowed p)
step (row vs t rs k) p a_term xs = add_term vs t rs k [] p (term_in xs)
step (row vs t rs k) p an_end xs = stops (NotAllowed p)
step (terms vs t rs k ts) p a_variable xs = stops (NotAllowed p)
step (terms vs t rs k ts) p a_tolerance xs = stops (NotAllowed p)
step (terms vs t rs k ts) p a_row xs = add_row vs t (closed rs k ts) p (limits_in xs)
step (terms vs t rs k ts) p a_term xs = add_term vs t rs k ts p (term_in xs)
step (terms vs t rs k ts) p an_end xs = ends (record { variables = vs; tolerance = t; rows = closed rs k ts })

-- after the end field, at the place p: nothing may be left
abbrev pub ended : Content → ℕ → List ℕ → Result Content SheetFault
ended c p [] = Ok c
ended c p (x ∷ xs) = Err (Trailing p)

-- what reads on: place, what is left, what was read
abbrev pub Reader : Type 0
Reader = ℕ → List ℕ → Draft → Result Content SheetFault

abbrev pub after_step : Reader → ℕ → List ℕ → Step → Result Content SheetFault
after_step more p rest (goes_on d) = more p rest d
after_step more p rest (ends c) = ended c p rest
after_step more p rest (stops e) = Err e

abbrev pub after_field : Reader → ℕ → Draft → Result Cut FieldFault → Result Content SheetFault
after_field more p d (Err e) = Err (Field e)
after_field more p d (Ok x) = after_step more (p + (3 + length x.content)) x.rest (step d p x.kind x.content)

-- at most k fields more
unfoldable pub reading : ℕ → Reader
reading zero p rest d = Err (Field (Short p))
reading (suc k) p rest d = after_field (reading k) p d (read_field (variable_count d) p rest)

-- a field has three bytes at least, so there are no more fields than bytes
unfoldable pub whole : Reader
whole p rest d = reading (length rest) p rest d

abbrev pub read_content : List ℕ → Result Content SheetFault
read_content xs = whole 0 xs start

-- whether the lists have the places
abbrev pub roomy : ℕ → ℕ → Content → Bool
roomy row_places term_places c = nat_le (length c.rows) row_places && nat_le (term_total c.rows) term_places

abbrev pub placed : ℕ → ℕ → ℕ → Result Content SheetFault → Result Content SheetFault
placed l row_places term_places (Err e) = Err e
placed l row_places term_places (Ok c) = cond (roomy row_places term_places c) (Ok c) (Err (NoRoom l))

unfoldable pub read_sheet : List ℕ → ℕ → ℕ → Result Content SheetFault
read_sheet xs row_places term_places = cond (nat_lt 4096 (length xs)) (Err TooLong) (placed (length xs) row_places term_places (read_content xs))
