-- What a sheet says, and which contents are well formed.
use Rattle.std.specs.Prelude.{◌≡◌, ℕ, ◌+◌, ◌≤◌, ◌≢◌, ◌⊎◌, List, [], ◌∷◌, length, ℤ, ◌≤ℤ◌}
use Rattle.std.specs.List.{AllByRecursion}
use Rattle.numbers.specs.Rows.{Term, degree}
use Rattle.span.specs.Making.{Count}

pub record GivenVariable : Type 0 where
  pub lo : ℤ
  pub hi : ℤ
  pub nominal : ℤ
  pub name : List ℕ

-- what a row asks of its value
pub data Limits : Type 0 where
  at_least : ℤ → Limits
  at_most : ℤ → Limits
  between : ℤ → ℤ → Limits

-- a term is a coefficient and one exponent for each variable
pub record GivenRow : Type 0 where
  pub limits : Limits
  pub terms : List Term

pub record Content : Type 0 where
  pub variables : List GivenVariable
  pub tolerance : ℕ
  pub rows : List GivenRow

-- A to Z, or 0 to 9
abbrev pub Letter : ℕ → Type 0
Letter b = ((65 ≤ b) × (b ≤ 90)) ⊎ ((48 ≤ b) × (b ≤ 57))

pub record GoodVariable (v : GivenVariable) : Type 0 where
  pub lo_count : Count v.lo
  pub hi_count : Count v.hi
  pub nominal_count : Count v.nominal
  pub from_lo : v.lo ≤ℤ v.nominal
  pub to_hi : v.nominal ≤ℤ v.hi
  pub named : 1 ≤ length v.name
  pub short : length v.name ≤ 8
  pub letters : AllByRecursion Letter v.name

-- no two have the same name
abbrev pub Different : List GivenVariable → Type 0
Different [] = Unit {0}
Different (v ∷ vs) = AllByRecursion (λ w. v.name ≢ w.name) vs × Different vs

pub record GoodVariables (vs : List GivenVariable) : Type 0 where
  pub some : 1 ≤ length vs
  pub most : length vs ≤ 8
  pub each : AllByRecursion GoodVariable vs
  pub different : Different vs

-- of n variables
pub record GoodTerm (n : ℕ) (t : Term) : Type 0 where
  pub c_count : Count t.coefficient
  pub each : length t.exponents ≡ n
  pub small : degree t.exponents ≤ 4

abbrev pub GoodLimits : Limits → Type 0
GoodLimits (at_least lo) = Count lo
GoodLimits (at_most hi) = Count hi
GoodLimits (between lo hi) = Count lo × Count hi × (lo ≤ℤ hi)

pub record GoodRow (n : ℕ) (r : GivenRow) : Type 0 where
  pub limits : GoodLimits r.limits
  pub some : 1 ≤ length r.terms
  pub most : length r.terms ≤ 12
  pub each : AllByRecursion (GoodTerm n) r.terms

abbrev pub GoodTolerance : ℕ → Type 0
GoodTolerance t = (1 ≤ t) × (t ≤ 2147483647)

pub record WellFormed (c : Content) : Type 0 where
  pub variables : GoodVariables c.variables
  pub tolerance : GoodTolerance c.tolerance
  pub some : 1 ≤ length c.rows
  pub most : length c.rows ≤ 16
  pub each : AllByRecursion (GoodRow (length c.variables)) c.rows

-- the number of terms in all rows
abbrev pub term_total : List GivenRow → ℕ
term_total [] = 0
term_total (r ∷ rs) = length r.terms + term_total rs
