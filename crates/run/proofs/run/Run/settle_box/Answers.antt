use Rattle.std.proofs.Common.{sym, ap, ◌∙◌, rules}
use Rattle.runlaw.specs.Laws.{judging}
use Rattle.runlaw.specs.Steps.{State}
use Rattle.run.specs.Filing.{Fate, fate_of, goes_on, filed_unsure}
use Rattle.run.proofs.run.Run.settle_box.Goals as goal
use Rattle.run.proofs.run.Run.settle_box.Goals.{in-None, in-Some+in-Met, in-Some+in-Broken, in-Some+in-Unsure}

pub returns-in-Ok-clause-left : goal.returns-in-Ok-clause-left
returns-in-Ok-clause-left g c = elim c.match-narrow.branch [
  | in-None w ↦ search rules
  | in-Some+in-Met w ↦ search rules
  | in-Some+in-Broken w ↦ search rules
  | in-Some+in-Unsure w ↦
      let s = c.args.self.now in
      let r = g.R.SplittingRule.named c.args.method.now.rule in
      let j = judging g.E.Enclosure in
      let f = g.C.Contractor.narrowed c.args.method.now.contractor in
      let system = ap (λ (t : State). t.system) c.self.view_is in
      let e = filed_unsure s r j w.in-Some.c (f s.system c.args.b) w.name-named.result
      (sym w.in-Some.is ∙ c.narrow.ensures ∙ (λ i. f (system i) c.args.b))
      (w.in-Unsure.ensures ∙ (λ i. j (system i) w.in-Some.c))
      (w.name-named.ensures ∙ ap (λ (t : State). r w.in-Some.c t.tolerance) c.self.view_is) in
      c.spend.ensures.left ∙ goes_on s r j c.args.b (f s.system c.args.b) c.match-narrow.self c.in-Ok.outcome
      (w.self-is ∙ w.file_unsure.ensures.left ∙ ap (λ (p : State × Fate). p.0) e)
      (sym (ap fate_of (sym w.filed-is ∙ c.in-Ok.is)) ∙ w.file_unsure.ensures.answer ∙ ap (λ (p : State × Fate). p.1) e)
]
