use Rattle.std.proofs.Common.{◌≡◌, length, take, sym, refl, ap, ◌∙◌, arith, length-take-le}
use Rattle.list.specs.Lists.{older}
use Rattle.list.proofs.Lists.{pop_gives, pop_holds, holds}
use Rattle.list.proofs.lent.List.pop.Goals as goal

pub returns-clause-gives : goal.returns-clause-gives
returns-clause-gives g c = rw (← c.self.view_is) (pop_gives _ _ c.self.inside.places.now c.index-self-last.result c.in_ok-last.ensures.0 c.in_ok-last.ensures.1 c.self.invariant)

pub returns-clause-holds : goal.returns-clause-holds
returns-clause-holds g c =
    let p = c.self.inside.places.now in
    let k = c.self.inside.len in
    let n = c.in_ok-last.last in
    let h = c.self.invariant in
    let m = c.in_ok-last.ensures.1 in
    let first : take n p ≡ older (take k p) = pop_holds k n p c.index-self-last.result c.in_ok-last.ensures.0 m h in
    rw (← c.self.view_is) (holds p p k n (older (take k p)) first refl refl (sym (length-take-le n p (omega arith)) ∙ ap length first))
