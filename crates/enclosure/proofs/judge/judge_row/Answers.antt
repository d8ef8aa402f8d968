use Rattle.std.proofs.Common.{ℤ, sym, ap, ◌∙◌, ap₂, w32}
use Rattle.std.proofs.lemmas.Int.{to_z-of_z}
use Rattle.span.proofs.Alike.{lo_fits, hi_fits}
use Rattle.enclosure.specs.Judging.{joined, at_least, at_most, judged_row}
use Rattle.enclosure.proofs.judge.judge_row.Goals as goal

pub returns-in-Between : goal.returns-in-Between
returns-in-Between c =
    let s = c.in-Closed.s in
    let t = c.in-Between.t in
    let e = c.join.ensures
    ∙ ap₂ joined (c.above-in-Between.ensures ∙ ap (λ (z : ℤ). at_least z s) (to_z-of_z w32 t.lo (lo_fits t))) (c.under-in-Between.ensures ∙ ap (λ (z : ℤ). at_most z s) (to_z-of_z w32 t.hi (hi_fits t)))
    ∙ ap₂ judged_row (sym c.in-Between.is) (sym c.in-Closed.is) in
    record { answer = e; met = record {}; broken = record {} }
