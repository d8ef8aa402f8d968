use Rattle.std.proofs.Common.{◌≡◌, ◌++◌, drop, vec_items}
use Rattle.listing.specs.Listing.{grouped}
use Rattle.listing.proofs.bytes.push_groups.Given as goal

abbrev pub invariant-loop-size : goal.invariant-loop-size
invariant-loop-size l = vec_items l.line ++ grouped (drop l.size-index l.sizes) l.rest ≡ vec_items l.initial.line ++ grouped l.sizes l.bytes
