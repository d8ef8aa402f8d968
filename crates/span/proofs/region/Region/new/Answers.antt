use Rattle.std.proofs.Common.{refl}
use Rattle.span.proofs.Writing.{padded_by, boxed_of}
use Rattle.span.proofs.region.Region.new.Goals as goal

pub returns : goal.returns
returns c = boxed_of c.args.spans.now _ c.if-n-lt1.false c.if-n-gt8.false refl (padded_by c.args.spans.now c.copy_from_slice.new.self _ c.copy_from_slice.ensures.after refl refl)
