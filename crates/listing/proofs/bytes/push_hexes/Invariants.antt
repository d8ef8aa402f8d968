use Rattle.std.proofs.Common.{◌≡◌, ◌++◌, drop, vec_items}
use Rattle.listing.specs.Listing.{hexes}
use Rattle.listing.proofs.bytes.push_hexes.Given as goal

-- with what is left it is the answer
abbrev pub invariant-loop-b : goal.invariant-loop-b
invariant-loop-b l = vec_items l.line ++ hexes (drop l.b-index l.bytes) ≡ vec_items l.initial.line ++ hexes l.bytes
