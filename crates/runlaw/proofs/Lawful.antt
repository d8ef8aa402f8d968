-- What a settle is brought is lawful at points, by the laws over every kind of number.
use Rattle.std.proofs.Common.{refl}
use Rattle.span.specs.Regions.{middles}
use Rattle.enclosure.specs.declared.enclosure.Enclosure.{Ghosts}
use Rattle.enclosure.specs.Rows.{numbers}
use Rattle.enclosure.proofs.Bridge.{judged_sound}
use Rattle.contractor.specs.Laws.{Narrowing, ContractorLaws, Naming, RuleLaws}
use Rattle.contractor.proofs.Points.{answer_keeps}
use Rattle.runlaw.specs.Laws.{judging, NarrowingLaws, JudgingLaws}
use Rattle.runlaw.specs.Steps.{settle, Lawful}

narrowing_lawful : (f : Narrowing) → ContractorLaws f → NarrowingLaws f
narrowing_lawful f l = record { within = l.within; keeps = λ s b e x h m. answer_keeps f l s b (f s b) refl e x h m }

judging_lawful : {X : Type 0} (E : Ghosts X) → JudgingLaws (judging E)
judging_lawful E = record { right = λ s b e x h. judged_sound E s b (numbers (middles b)) (judging E s b) refl e x h }

pub settle_lawful : {X : Type 0} (f : Narrowing) (r : Naming) (E : Ghosts X) → ContractorLaws f → RuleLaws r → Lawful (settle f r (judging E))
settle_lawful f r E l m = (narrowing_lawful f l, m, judging_lawful E)
