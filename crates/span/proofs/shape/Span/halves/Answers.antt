use Rattle.std.proofs.Common.{◌≡◌, ◌∙◌, w32, SFits, to_z, of_z, rules}
use Rattle.std.proofs.lemmas.Int.{to_z-of_z}
use Rattle.span.specs.Halves.{middle}
use Rattle.span.proofs.Alike.{same_spans}
use Rattle.span.proofs.Alike.{lo_fits, hi_fits}
use Rattle.span.proofs.shape.Span.halves.Goals as goal

pub returns : goal.returns
returns c =
    let s = c.args.self in
    let fm : SFits w32 c.middle-m.result = search rules in
    let l = to_z-of_z w32 s.lo (lo_fits s) in
    let h = to_z-of_z w32 s.hi (hi_fits s) in
    let m : to_z w32 (of_z w32 c.middle-m.result) ≡ middle s = to_z-of_z w32 c.middle-m.result fm ∙ c.middle-m.ensures in
    same_spans l m m h
