use Rattle.std.proofs.Common.{sym, ap, ◌∙◌, rules}
use Rattle.format.specs.Reading.{limits_in}
use Rattle.sheet.specs.Held.{told, bounds_is}
use Rattle.sheet.proofs.Steps.{row_goes}
use Rattle.sheet.proofs.gather.Gathered.add_row.Goals as goal

pub returns : goal.returns
returns c = λ vs rs held.
    row_goes c.args.self.now vs rs held c.push.new.self c.args.place c.in_ok-bounds.bounds (limits_in c.args.bytes.now) c.requires.state (search rules)
    (ap (told bounds_is) (sym c.in_ok-bounds.ensures.ok_part) ∙ c.bounds.ensures) c.push.ensures.items
