use Rattle.std.proofs.Common.{◌≡◌, ◌++◌, map, drop, length, vec_items}
use Rattle.sheet.specs.Held.{name_is}
use Rattle.listing.specs.Listing.{powers_words}
use Rattle.listing.proofs.words.push_powers.Given as goal

-- with what is left it is the answer
abbrev pub invariant-loop-name : goal.invariant-loop-name
invariant-loop-name l = vec_items l.line ++ powers_words (map name_is (drop (length l.yielded) l.names)) (drop (length l.yielded) l.exponents) ≡ vec_items l.initial.line ++ powers_words (map name_is l.names) l.exponents
