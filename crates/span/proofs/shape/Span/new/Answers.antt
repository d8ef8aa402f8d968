use Rattle.std.proofs.Common.{arith}
use borrow.Author.Differences.{ints}
use Rattle.span.proofs.Alike.{made_closed}
use Rattle.span.proofs.shape.Span.new.Goals as goal

pub returns-then-is_count : goal.returns-then-is_count
returns-then-is_count c = made_closed _ c.args.lo c.args.hi (omega (arith, ints)) (omega (arith, ints))
