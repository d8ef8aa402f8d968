use Rattle.std.proofs.Common.{refl, ◌∙◌, ap₂}
use Rattle.arithmetic.specs.Reaches.{stretch, product, power}
use Rattle.arithmetic.proofs.Results.{power_one}
use Rattle.arithmetic.proofs.Facts.{at_limit, splits}
use Rattle.arithmetic.proofs.claims.rounded_outward.Goals as goal

pub returns : goal.returns
unfolding power stretch
returns c = record {
  answer = c.product.ensures.answer ∙ ap₂ product c.between.ensures c.between-2.ensures;
  product = refl;
  quotient = refl;
  divided = refl;
  limit = at_limit;
  past = refl;
  itself = power_one;
  square = refl;
  split = splits;
}
