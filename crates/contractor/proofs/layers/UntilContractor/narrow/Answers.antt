use Rattle.std.proofs.Common.{◌≡◌, None, ℕ, suc, ◌+◌, ◌-◌, sym, ap, ◌∙◌, arith}
use borrow.Author.Tests.{clash}
use Rattle.contractor.specs.Layers.{until}
use Rattle.contractor.proofs.Turns.{until_none, until_same, until_more, until_done}
use Rattle.contractor.proofs.layers.UntilContractor.narrow.Goals as goal

pub loop-i-preserved : goal.loop-i-preserved
loop-i-preserved g c =
    let f = g.A.Contractor.narrowed c.args.self.now.inner in
    let s = c.args.system.now in
    let k = c.rounds-k.result in
    let i = c.loop-i._i in
    let e : suc (k - (i + 1)) ≡ k - i = omega (arith, c.loop-i-test.true) in
    sym (until_more f s c.loop-i.cur (k - (i + 1)) c.in_ok-c.c (sym c.in_ok-c.was ∙ c.narrow.ensures) (λ q. clash (sym c.if-same.false ∙ c.same.ensures.1 q)))
    ∙ ap (λ (m : ℕ). until m f s c.loop-i.cur) e ∙ c.loop-i.invariant

pub returns-in_err-c : goal.returns-in_err-c
returns-in_err-c g c =
    let f = g.A.Contractor.narrowed c.args.self.now.inner in
    let s = c.args.system.now in
    let n : None ≡ f s c.loop-i.cur = sym c.in_err-c.was ∙ c.narrow.ensures in
    c.from_residual.ensures ∙ sym (until_none f s c.loop-i.cur (c.rounds-k.result - c.loop-i._i) (omega (arith, c.loop-i-test.true)) n)
    ∙ c.loop-i.invariant ∙ ap (λ (k : ℕ). until k f s c.args.b.now) c.rounds-k.ensures

pub returns-then-same : goal.returns-then-same
returns-then-same g c =
    let f = g.A.Contractor.narrowed c.args.self.now.inner in
    let s = c.args.system.now in
    sym (until_same f s c.loop-i.cur (c.rounds-k.result - c.loop-i._i) c.in_ok-c.c (omega (arith, c.loop-i-test.true)) (sym c.in_ok-c.was ∙ c.narrow.ensures) (c.same.ensures.0 c.if-same.true))
    ∙ c.loop-i.invariant ∙ ap (λ (k : ℕ). until k f s c.args.b.now) c.rounds-k.ensures

pub returns : goal.returns
returns g c =
    let f = g.A.Contractor.narrowed c.args.self.now.inner in
    let s = c.args.system.now in
    sym (until_done (c.rounds-k.result - c.loop-i._i) f s c.loop-i.cur (omega (arith, c.loop-i-test.false)))
    ∙ c.loop-i.invariant ∙ ap (λ (k : ℕ). until k f s c.args.b.now) c.rounds-k.ensures
