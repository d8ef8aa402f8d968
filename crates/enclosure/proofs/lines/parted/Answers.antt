use Rattle.std.proofs.Common.{ℕ, take, drop, ap, ◌∙◌}
use Rattle.enclosure.proofs.Turns.{take_least, drop_least}
use Rattle.enclosure.proofs.lines.parted.Goals as goal

pub returns : goal.returns
returns c =
    let k = c.args.own in
    let rest = c.args.rest.now in
    record {
      own = c.split_at.ensures.front ∙ ap (λ (m : ℕ). take m rest) c.min.ensures ∙ take_least k rest;
      more = c.split_at.ensures.back ∙ ap (λ (m : ℕ). drop m rest) c.min.ensures ∙ drop_least k rest;
    }
