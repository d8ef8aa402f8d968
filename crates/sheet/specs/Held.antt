-- What the code holds of a sheet, in the words of its content.
use Rattle.std.specs.Prelude.{ℕ, ◌-◌, Bool, cond, ◌&&◌, List, ◌++◌, length, replicate, Some, None, Option, nat_le}
use Rattle.numbers.specs.Rows.{Term as GivenTerm}
use Rattle.format.specs.Content.{GivenVariable, Limits, at_least, at_most, between}
use Rattle.format.specs.Reading.{are_letters, good_limits}
use Rattle.sheet.specs.declared.content.Asked.{Asked}
use Rattle.sheet.specs.declared.content.Asked.TheVariants.{AtLeast as AskedAtLeast, AtMost as AskedAtMost, Between as AskedBetween}
use Rattle.sheet.specs.declared.shape.Bounds.{Bounds}
use Rattle.sheet.specs.declared.shape.Bounds.TheVariants.{AtLeast, AtMost, Between}
use Rattle.sheet.specs.declared.shape.Term.{Term}
use Rattle.sheet.specs.declared.variable.Name.{Name}
use Rattle.sheet.specs.declared.variable.Variable.{Variable}

abbrev pub name_is : Name → List ℕ
name_is n = n.bytes.items

abbrev pub variable_is : Variable → GivenVariable
variable_is v = record { lo = v.span.lo; hi = v.span.hi; nominal = v.nominal; name = name_is v.name }

abbrev pub bounds_is : Bounds → Limits
bounds_is (AtLeast lo) = at_least lo
bounds_is (AtMost hi) = at_most hi
bounds_is (Between s) = between s.lo s.hi

abbrev pub asked_is : Asked → Limits
asked_is (AskedAtLeast lo) = at_least lo
asked_is (AskedAtMost hi) = at_most hi
asked_is (AskedBetween lo hi) = between lo hi

-- with zeros up to eight
abbrev pub widened : List ℕ → List ℕ
widened xs = xs ++ replicate (8 - length xs) 0

-- a term as the code holds it, with an exponent in each of eight places
abbrev pub padded : GivenTerm → GivenTerm
padded t = record { coefficient = t.coefficient; exponents = widened t.exponents }

abbrev pub term_is : Term → GivenTerm
term_is t = record { coefficient = t.coefficient; exponents = t.exponents }

-- an answer in the words of the content
abbrev pub told : {A B : Type 0} → (A → B) → Option A → Option B
told f None = None
told f (Some x) = Some (f x)

-- 1 to 8 bytes out of A to Z and 0 to 9
abbrev pub is_name : List ℕ → Bool
is_name xs = nat_le 1 (length xs) && (nat_le (length xs) 8 && are_letters xs)

-- what a row asks, if it is in range
abbrev pub readable : Option Limits → Option Limits
readable None = None
readable (Some k) = cond (good_limits k) (Some k) None
