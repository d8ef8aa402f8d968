-- What adding and replacing answer: done, or the list is full.
use Rattle.std.specs.Prelude.{Bool, true, false, Ok, Err, Result}
use Rattle.list.specs.declared.lent.Full.{Full}

-- by whether there is a place for it
abbrev pub answered : Bool → Result (Unit {0}) Full
answered true = Ok tt
answered false = Err (record {})
