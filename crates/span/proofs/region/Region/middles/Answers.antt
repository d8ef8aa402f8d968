use Rattle.span.specs.Halves.{middle}
use Rattle.std.proofs.Common.{rules}
use Rattle.span.proofs.Writing.{mapped}
use Rattle.span.proofs.region.Region.middles.Goals as goal

pub returns : goal.returns
returns c = mapped _ middle _ c.args.self.now.spans _ 8 c.args.self.now.whole (λ p q x y k. search rules) c.map.ensures.items
