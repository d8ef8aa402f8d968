use Rattle.std.proofs.Common.{◌≡◌, [], ◌∷◌, refl, ◌∙◌, ap, rules}
use Rattle.list.specs.Lists.{items, room}
use Rattle.list.proofs.Lists.{first_added}
use Rattle.runlaw.proofs.Runs.{same_opened, always_from}
use Rattle.run.specs.Runs.{Openable}
use Rattle.run.proofs.run.Run.open.Goals as goal

pub returns : goal.returns
returns c =
    let o : Openable c.args.system.now c.args.start c.args.tolerance (room c.args.lists.pending) = search rules in
    let p : items c.add.new.self ≡ c.args.start ∷ [] = ap items c.add.ensures.holds ∙ rw c.clear.ensures (first_added _ _ o.place) in
    let q : room c.add.new.self ≡ room c.args.lists.pending = ap room c.add.ensures.holds ∙ ap room c.clear.ensures in (
      o,
      same_opened refl refl refl refl refl p q (ap items c.clear-2.ensures) (ap room c.clear-2.ensures) (ap items c.clear-3.ensures) (ap room c.clear-3.ensures),
      always_from (same_opened {l = c.args.limit} refl refl refl refl refl p q (ap items c.clear-2.ensures) (ap room c.clear-2.ensures) (ap items c.clear-3.ensures) (ap room c.clear-3.ensures)) o.some o.fits o.place,
    )
