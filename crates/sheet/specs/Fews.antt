-- What a contract sees of a `Few`.
use Rattle.std.specs.Prelude.{List}

-- what it holds, in order, and what lies in the places behind, of which no clause says anything
pub record Few (T : Type 0) : Type 0 where
  pub items : List T
  pub spare : List T
