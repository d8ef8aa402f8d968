-- The words that tell a verdict and a cause.
use Rattle.std.specs.Prelude.{ℕ, List, codes}
use Rattle.runlaw.specs.declared.shape.Verdict.{Verdict}
use Rattle.runlaw.specs.declared.shape.Verdict.TheVariants.{Some, Unfinished, Unsure, None}
use Rattle.runlaw.specs.declared.shape.Cause.{Cause}
use Rattle.runlaw.specs.declared.shape.Cause.TheVariants.{Small, Crowded}

abbrev pub verdict_word : Verdict → List ℕ
verdict_word Some = codes "SOME"
verdict_word Unfinished = codes "UNFINISHED"
verdict_word Unsure = codes "UNSURE"
verdict_word None = codes "NONE"

abbrev pub cause_word : Cause → List ℕ
cause_word Small = codes "SMALL"
cause_word Crowded = codes "CROWDED"
