-- Single values of a row's judgement.
use Rattle.std.specs.Prelude.{◌≡◌, pos}
use Rattle.arithmetic.specs.Reaches.{stretch}
use Rattle.sheet.specs.declared.shape.Bounds.TheVariants.{AtMost}
use Rattle.enclosure.specs.declared.shape.Judgement.TheVariants.{Met, Broken, Unsure}
use Rattle.enclosure.specs.Judging.{judged_row}

-- a span that ends at the bound
abbrev pub AtTheBound : Type 0
AtTheBound = judged_row (AtMost (pos 131072)) (stretch (pos 0) (pos 131072)) ≡ Met

-- one that begins past it
abbrev pub PastTheBound : Type 0
PastTheBound = judged_row (AtMost (pos 131072)) (stretch (pos 131073) (pos 131073)) ≡ Broken

-- one that runs over it
abbrev pub OverTheBound : Type 0
OverTheBound = judged_row (AtMost (pos 131072)) (stretch (pos 0) (pos 131073)) ≡ Unsure
