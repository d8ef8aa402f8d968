use Rattle.std.proofs.Common.{ap, ◌∙◌}
use Rattle.span.specs.declared.shape.Span.{Span}
use Rattle.span.specs.Halves.{lower, upper}
use Rattle.span.specs.Regions.{with_span}
use Rattle.span.proofs.region.Region.split.Goals as goal

pub returns : goal.returns
returns c =
    let b = c.args.self.now in
    let j = c.args.j in
    let l = c.with_span.ensures ∙ ap (λ (p : Span × Span). with_span b j p.0) c.halves.ensures ∙ ap (λ (s : Span). with_span b j (lower s)) c.span.ensures in
    let u = c.with_span-2.ensures ∙ ap (λ (p : Span × Span). with_span b j p.1) c.halves.ensures ∙ ap (λ (s : Span). with_span b j (upper s)) c.span.ensures in
    λ i. (l i, u i)
