use Rattle.std.proofs.Common.{◌≡◌, sym, ap, ◌∙◌, subst}
use Rattle.list.specs.Lists.{room}
use Rattle.enclosure.specs.contracts.plain.ReachEnclosure.TheImpl.{ghosts}
use Rattle.contractor.specs.Rules.{widest_of}
use Rattle.runlaw.specs.Laws.{judging}
use Rattle.runlaw.specs.Steps.{State, says, opened, verdict_of}
use Rattle.runlaw.specs.Endings.{Finished}
use Rattle.solving.specs.Numbers.{stop_number}
use Rattle.report.specs.Ranges.{ranges_report}
use Rattle.sorting.specs.Sorted.{narrowing}
use Rattle.sorting.proofs.sorted.sorted.Goals as goal

pub returns : goal.returns
returns c =
    let end = c.in-Ok.ended.run in
    let stop = stop_number c.in-Ok.ended.stop in
    let told : says c.verdict.result ≡ says (verdict_of end) = c.verdict.ensures in
    let verdict : c.verdict.result ≡ verdict_of end = cc in
    let p = ap room c.over-lists.ensures.pending in
    let f = ap room c.over-lists.ensures.feasible in
    let u = ap room c.over-lists.ensures.undecided in
    record {
      start = c.in-Some.start;
      from = sym c.start.ensures ∙ c.in-Some.is;
      system = c.system-system.result;
      rows = record { n = c.system-system.ensures.n; rows = c.system-system.ensures.rows; terms = c.system-system.ensures.terms };
      end = end;
      stop = stop;
      finished = subst (λ (s : State). Finished narrowing widest_of (judging ghosts) s stop end) (λ i. opened c.system-system.result c.in-Some.start (c.tolerance.ensures i) 10000 (p i) (f i) (u i)) c.in-Ok.ensures.1;
      sound = c.in-Ok.ensures.2;
      text_is = c.in_ok-ranges_report.ensures ∙ (λ i. ranges_report (c.variables.ensures i) (verdict i) (c.settled.ensures i) (c.number.ensures i) (c.feasible.ensures i) (c.undecided.ensures i) (c.pending.ensures i));
    }
