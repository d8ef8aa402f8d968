-- Contractors made of contractors: their laws follow from those below, over every kind of number.
use Rattle.std.specs.Prelude.{◌≡◌, ℕ, zero, suc, min, max, Some, None, Option, refl}
use Rattle.std.proofs.Common.{sym, ap, ◌∙◌}
use Rattle.numbers.specs.Numbers.{Numbers}
use Rattle.span.specs.declared.region.Region.{Region}
use Rattle.sheet.specs.declared.system.System.{System}
use Rattle.enclosure.specs.Rows.{lines, MeetsAll}
use Rattle.contractor.specs.Laws.{Narrowing, ContractorLaws}
use Rattle.contractor.specs.Same.{same?}
use Rattle.contractor.specs.Steps.{bind, Narrows, narrows_stay, narrows_then}

-- at one system a contractor is a step that keeps the points that meet its rows
abbrev pub Solves : System → (N : Numbers) → (ℕ → N.carrier) → Type 0
Solves s N x = MeetsAll N x (lines s)

pub step : {f : Narrowing} → ContractorLaws f → (s : System) → Narrows s.n (Solves s) (f s)
step l s = record { within = l.within s; keeps = λ N b e x i m. l.keeps N s b e x i m }

pub laws_of : {f : Narrowing} → ((s : System) → Narrows s.n (Solves s) (f s)) → ContractorLaws f
laws_of l = record { within = λ s b e. (l s).within b e; keeps = λ N s b e x i m. (l s).keeps N b e x i m }

-- the first one's answer is given to the second
abbrev pub then_of : Narrowing → Narrowing → Narrowing
then_of f g s b = bind (f s b) (g s)

pub then_laws : {f g : Narrowing} → ContractorLaws f → ContractorLaws g → ContractorLaws (then_of f g)
then_laws {f} {g} lf lg = laws_of (λ s. narrows_then (step lf s) (step lg s))

-- k times
abbrev pub times : ℕ → Narrowing → Narrowing
times zero f s b = Some b
times (suc k) f s b = bind (f s b) (times k f s)

pub times_laws : (k : ℕ) {f : Narrowing} → ContractorLaws f → ContractorLaws (times k f)
times_laws zero l = laws_of (λ s. narrows_stay s.n (Solves s))
times_laws (suc k) l = then_laws l (times_laws k l)

-- k is brought into 1 to 16
abbrev pub turns : ℕ → ℕ
turns k = min 16 (max 1 k)

-- the answer c where the box stayed, and otherwise what the rounds that are left give
abbrev pub unless_same : {A : Type 0} → Dec A → Region → Option Region → Option Region
unless_same (yes e) c more = Some c
unless_same (no n) c more = more

-- up to k times: it stops at none, and at a round that leaves the box as it was given
unfoldable pub until : ℕ → Narrowing → Narrowing
until zero f s b = Some b
until (suc k) f s b = bind (f s b) (λ c. unless_same (same? c b) c (until k f s c))

-- once the box stays, it stays
times_same : (k : ℕ) (f : Narrowing) (s : System) (b : Region) → f s b ≡ Some b → times k f s b ≡ Some b
times_same zero f s b e = refl
times_same (suc k) f s b e = ap (λ (o : Option Region). bind o (times k f s)) e ∙ times_same k f s b e

-- stopping early changes nothing: it is k times
abbrev pub UntilIsTimes : Type 0
UntilIsTimes = (k : ℕ) (f : Narrowing) (s : System) (b : Region) → until k f s b ≡ times k f s b

pub until_is : UntilIsTimes
unfolding until
until_is zero f s b = refl
until_is (suc k) f s b = by (until_is k f s) (f s b) refl
  where
    settled : (c : Region) → until k f s c ≡ times k f s c → f s b ≡ Some c → (d : Dec (c ≡ b)) → unless_same d c (until k f s c) ≡ times k f s c
    settled c more e (yes p) = sym (times_same k f s c (ap (f s) p ∙ e))
    settled c more e (no n) = more

    by : ((c : Region) → until k f s c ≡ times k f s c) → (o : Option Region) → f s b ≡ o → bind o (λ c. unless_same (same? c b) c (until k f s c)) ≡ bind o (times k f s)
    by more None e = refl
    by more (Some c) e = settled c (more c) e (same? c b)

pub until_laws : (k : ℕ) {f : Narrowing} → ContractorLaws f → ContractorLaws (until k f)
until_laws k {f} l = record {
  within = λ s b e. rw (until_is k f s b) ((times_laws k l).within s b e);
  keeps = λ N s b e x i m. rw (until_is k f s b) ((times_laws k l).keeps N s b e x i m);
}
