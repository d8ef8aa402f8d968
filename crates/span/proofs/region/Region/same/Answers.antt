use Rattle.span.proofs.Alike.{region_decided}
use Rattle.span.proofs.region.Region.same.Goals as goal

pub returns : goal.returns
returns c = rw c.eq.ensures (region_decided c.args.self.now c.args.other.now)
