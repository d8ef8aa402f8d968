use Rattle.std.proofs.Common.{◌≡◌, ◌++◌, map, drop, vec_items}
use Rattle.listing.specs.Listing.{name_byte}
use Rattle.listing.proofs.words.push_name.Given as goal

-- with what is left it is the answer
abbrev pub invariant-loop-b : goal.invariant-loop-b
invariant-loop-b l = vec_items l.line ++ map name_byte (drop l.b-index l.name) ≡ vec_items l.initial.line ++ map name_byte l.name
