-- The ends of spans in units, what is computed with them, and the numbers that lie between them.
use Rattle.std.specs.Prelude.{ℤ, pos, ◌+ℤ◌, ◌-ℤ◌, ◌*ℤ◌, neg_ℤ}
use Rattle.numbers.specs.Numbers.{Numbers}
use Rattle.numbers.specs.Values.{int, counted}
use Rattle.numbers.specs.Rounding.{floor, ceil, floor_by, ceil_by, least, greatest}

-- the numbers from so many units to so many units
pub record Ends : Type 0 where
  pub from : ℤ
  pub to : ℤ

-- the number x lies between the ends s
pub record Holds (N : Numbers) (s : Ends) (x : N.carrier) : Type 0 where
  pub low : N.le (int N s.from) (counted N x)
  pub high : N.le (counted N x) (int N s.to)

-- one count for both ends
abbrev pub only : ℤ → Ends
only m = record { from = m; to = m }

abbrev pub sum : Ends → Ends → Ends
sum s t = record { from = s.from +ℤ t.from; to = s.to +ℤ t.to }

abbrev pub opposite : Ends → Ends
opposite s = record { from = neg_ℤ s.to; to = neg_ℤ s.from }

abbrev pub difference : Ends → Ends → Ends
difference s t = record { from = s.from -ℤ t.to; to = s.to -ℤ t.from }

abbrev pub product : Ends → Ends → Ends
product s t = record {
  from = floor (least (s.from *ℤ t.from) (s.from *ℤ t.to) (s.to *ℤ t.from) (s.to *ℤ t.to)) 65536;
  to = ceil (greatest (s.from *ℤ t.from) (s.from *ℤ t.to) (s.to *ℤ t.from) (s.to *ℤ t.to)) 65536;
}

-- for a t that lies above 0 or below 0
abbrev pub quotient : Ends → Ends → Ends
quotient s t =
    let a = s.from *ℤ pos 65536 in
    let b = s.to *ℤ pos 65536 in
    record {
      from = least (floor_by a t.from) (floor_by a t.to) (floor_by b t.from) (floor_by b t.to);
      to = greatest (ceil_by a t.from) (ceil_by a t.to) (ceil_by b t.from) (ceil_by b t.to);
    }
