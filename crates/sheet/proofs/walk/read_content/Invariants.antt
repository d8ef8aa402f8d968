use Rattle.std.proofs.Common.{◌-◌, ◌≤◌, length}
use Rattle.format.specs.Reading.{read_content}
use Rattle.sheet.specs.Walk.{Leads}
use Rattle.sheet.proofs.walk.read_content.Given as goal

abbrev pub invariant-fields : goal.invariant-fields
invariant-fields l = (length l.rest ≤ length l.bytes) × Leads l.gathered (length l.bytes - length l.rest) l.rest (read_content l.bytes)

abbrev pub decreases-fields : goal.decreases-fields
decreases-fields l = length l.rest
