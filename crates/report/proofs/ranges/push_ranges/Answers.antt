use Rattle.std.proofs.Common.{◌≡◌, ℕ, zero, suc, min, List, [], ◌∷◌, length, drop, refl, rules, arith}
use Rattle.std.proofs.lemmas.Slice.Zip.{zip_end}
use Rattle.std.proofs.lemmas.Grind.{common_steps}
use Rattle.span.specs.declared.shape.Span.{Span}
use Rattle.sheet.specs.declared.variable.Variable.{Variable}
use Rattle.report.specs.Ranges.{ranges_text}
use Rattle.report.proofs.ranges.push_ranges.Goals as goal

-- past the variables, or past the spans, there is nothing more
ranges_end : (vs : List Variable) (ss : List Span) (i : ℕ) → i ≡ min (length vs) (length ss) → ranges_text (drop i vs) (drop i ss) ≡ []
ranges_end [] ss zero e = refl
ranges_end [] ss (suc i) e = absurd (omega arith)
ranges_end (v ∷ vs) [] zero e = refl
ranges_end (v ∷ vs) [] (suc i) e = absurd (omega arith)
ranges_end (v ∷ vs) (s ∷ ss) zero e = absurd (omega arith)
ranges_end (v ∷ vs) (s ∷ ss) (suc i) e = ranges_end vs ss i (omega arith)

pub returns : goal.returns
returns c =
    let n : length c.loop-v.yielded ≡ min (length c.args.variables.now) (length c.args.spans.now) = zip_end _ _ _ _ _ c.next.new.self _ (search rules) (search rules) c.loop-v.yielded_by c.in-None.is c.next.ensures.steps in
    let e = ranges_end c.args.variables.now c.args.spans.now (length c.loop-v.yielded) n in
    grind (arith, common_steps)
