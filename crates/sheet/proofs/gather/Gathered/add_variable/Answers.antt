use Rattle.std.proofs.Common.{◌<◌, length, sym, ap, ◌∙◌, rules}
use Rattle.format.specs.Reading.{variable_in}
use Rattle.sheet.specs.Held.{told, variable_is}
use Rattle.sheet.proofs.Steps.{variable_goes}
use Rattle.sheet.proofs.gather.Gathered.add_variable.Goals as goal

pub returns : goal.returns
returns c = λ vs held.
    let few : length c.args.self.now.heading.variables.items < 8 = search rules in
    variable_goes c.args.self.now vs held c.push.new.self c.args.place c.in_ok-v.v (variable_in c.args.bytes.now) c.requires.state few
    (ap (told variable_is) (sym c.in_ok-v.ensures.ok_part) ∙ c.variable.ensures) (search rules) c.push.ensures.items
