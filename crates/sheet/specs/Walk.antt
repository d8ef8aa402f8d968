-- What reading the fields to the end answers.
use Rattle.std.specs.Prelude.{◌≡◌, ℕ, List, Ok, Err, Result}
use Rattle.format.specs.declared.fault.SheetFault.{SheetFault}
use Rattle.sheet.specs.declared.gather.Gathered.{Gathered}
use Rattle.format.specs.Content.{Content}
use Rattle.format.specs.Reading.{Draft, whole}
use Rattle.sheet.specs.Gathering.{HoldsAll, Holds}

abbrev pub ContentSays : Result Gathered SheetFault → Result Content SheetFault → Type 0
ContentSays (Ok g) (Ok c) = HoldsAll g c
ContentSays (Ok g) (Err f) = ⊥
ContentSays (Err e) (Ok c) = ⊥
ContentSays (Err e) (Err f) = e ≡ f

-- what was gathered leads, from the place p and with rest still to come, to r
pub record Leads (g : Gathered) (p : ℕ) (rest : List ℕ) (r : Result Content SheetFault) : Type 0 where
  pub d : Draft
  pub holds : Holds g d
  pub to : whole p rest d ≡ r
