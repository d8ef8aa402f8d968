use Rattle.contractor.specs.Layers.{until_is}
use Rattle.contractor.proofs.Points.{answer_inside, answer_keeps}
use Rattle.contractor.proofs.solving.narrowed_by.Goals as goal

pub returns : goal.returns
returns g c =
    let f = g.C.Contractor.narrowed c.args.c.now in
    let l = g.C.Contractor.laws c.args.c.now in
    record {
      answer = c.narrow.ensures;
      inside = answer_inside f l c.args.system.now c.args.b.now c.narrow.result c.narrow.ensures;
      kept = answer_keeps f l c.args.system.now c.args.b.now c.narrow.result c.narrow.ensures;
      iterated = until_is;
    }
