use Rattle.std.proofs.Common.{pos, refl, ap, ◌∙◌}
use Rattle.span.specs.Reached.{Reach}
use Rattle.sheet.specs.declared.shape.Bounds.TheVariants.{AtMost}
use Rattle.arithmetic.specs.Reaches.{stretch}
use Rattle.enclosure.specs.Judging.{judged_row}
use Rattle.enclosure.proofs.judge.over_the_bound.Goals as goal

pub returns : goal.returns
unfolding stretch
returns c = record { answer = c.judge_row.ensures.answer ∙ ap (λ (r : Reach). judged_row (AtMost (pos 131072)) r) c.between.ensures; at = refl; past = refl; over = refl }
