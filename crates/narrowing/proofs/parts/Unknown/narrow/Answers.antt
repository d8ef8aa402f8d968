use Rattle.std.proofs.Common.{◌≡◌, ◌<◌, length, get_or, Some, sym, ap, ◌∙◌, arith}
use Rattle.span.specs.Regions.{nought}
use Rattle.std.proofs.lemmas.List.{get_or_default}
use Rattle.enclosure.specs.Plain.{plain_row}
use Rattle.narrowing.specs.Passes.{line, replaced}
use Rattle.narrowing.proofs.Ways.{skipped, no_target, aimed_at}
use Rattle.narrowing.proofs.parts.Unknown.narrow.Goals as goal

pub returns-then-not-occurs : goal.returns-then-not-occurs
returns-then-not-occurs c = skipped (line c.args.self.now.n c.args.self.now.bounds c.args.self.now.terms.now) c.args.self.now.j c.args.b.now (sym c.occurs.ensures ∙ c.if-not-occurs.true)

pub returns-in_err-t : goal.returns-in_err-t
returns-in_err-t c =
    let w : c.total-whole.result ≡ plain_row c.args.b.now (line c.args.self.now.n c.args.self.now.bounds c.args.self.now.terms.now).terms = rw c.unmarked.ensures.region at c.total-whole.ensures in
    c.from_residual.ensures ∙ no_target (line c.args.self.now.n c.args.self.now.bounds c.args.self.now.terms.now) c.args.self.now.j c.args.b.now (sym c.occurs.ensures ∙ c.if-not-occurs.false) c.total-whole.result w (sym c.in_err-t.was ∙ c.aim.ensures)

pub returns-in_err-s : goal.returns-in_err-s
returns-in_err-s c =
    let b = c.args.b.now in
    let j = c.args.self.now.j in
    let few : j < length b.spans = let p = c.args.self.now.few in let q = c.args.self.now.there in let w = b.whole in omega arith in
    let w : c.total-whole.result ≡ plain_row b (line c.args.self.now.n c.args.self.now.bounds c.args.self.now.terms.now).terms = rw c.unmarked.ensures.region at c.total-whole.ensures in
    let e = aimed_at (line c.args.self.now.n c.args.self.now.bounds c.args.self.now.terms.now) j b (sym c.occurs.ensures ∙ c.if-not-occurs.false) c.total-whole.result w c.in_ok-t.t c.slope-a.result c.remainder-r.result c.difference.result c.quotient-x.result (get_or b.spans j c.index-b-self.result)
    (sym c.in_ok-t.was ∙ c.aim.ensures) c.slope-a.ensures c.remainder-r.ensures c.difference.ensures.answer c.quotient-x.ensures.answer (get_or_default b.spans j c.index-b-self.result nought few) in
    c.from_residual-in_err-s.ensures ∙ ap (replaced b j) (sym c.in_err-s.was ∙ c.within.ensures.answer) ∙ e

pub returns : goal.returns
returns c =
    let b = c.args.b.now in
    let j = c.args.self.now.j in
    let few : j < length b.spans = let p = c.args.self.now.few in let q = c.args.self.now.there in let w = b.whole in omega arith in
    let w : c.total-whole.result ≡ plain_row b (line c.args.self.now.n c.args.self.now.bounds c.args.self.now.terms.now).terms = rw c.unmarked.ensures.region at c.total-whole.ensures in
    let e = aimed_at (line c.args.self.now.n c.args.self.now.bounds c.args.self.now.terms.now) j b (sym c.occurs.ensures ∙ c.if-not-occurs.false) c.total-whole.result w c.in_ok-t.t c.slope-a.result c.remainder-r.result c.difference.result c.quotient-x.result (get_or b.spans j c.index-b-self.result)
    (sym c.in_ok-t.was ∙ c.aim.ensures) c.slope-a.ensures c.remainder-r.ensures c.difference.ensures.answer c.quotient-x.ensures.answer (get_or_default b.spans j c.index-b-self.result nought few) in
    ap Some c.with_span.ensures ∙ ap (replaced b j) (sym c.in_ok-s.was ∙ c.within.ensures.answer) ∙ e
