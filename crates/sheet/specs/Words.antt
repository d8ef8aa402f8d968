-- What a row asks, in words.
use Rattle.std.specs.Prelude.{ℕ, List, ◌++◌, codes}
use Rattle.std.specs.Fmt.{signed_decimal}
use Rattle.format.specs.Content.{Limits, at_least, at_most, between}

abbrev pub asked_words : Limits → List ℕ
asked_words (at_least lo) = codes "at least " ++ signed_decimal lo
asked_words (at_most hi) = codes "at most " ++ signed_decimal hi
asked_words (between lo hi) = codes "between " ++ (signed_decimal lo ++ (codes " and " ++ signed_decimal hi))
