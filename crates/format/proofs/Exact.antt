-- The theorem: both directions.
use Rattle.std.proofs.Common.{◌≡◌, ℕ, Bool, true, false, cond, ltb, leb, List, length, Ok, Err, Result, sym, refl, ap, ◌∙◌, subst}
use Rattle.std.specs.List.{AllByRecursion}
use Rattle.std.proofs.lemmas.Bool.{le-leb, leb-true, le-ltb, ltb-false, and_from, and_parts}
use Rattle.format.specs.declared.fault.SheetFault.{SheetFault}
use Rattle.format.specs.declared.fault.SheetFault.TheVariants.{TooLong, NoRoom}
use Rattle.format.specs.Content.{Content, term_total}
use Rattle.format.specs.Reading.{start, whole, read_content, roomy, placed, read_sheet}
use Rattle.format.specs.Theorem.{Byte, Says, Exact}
use Rattle.format.proofs.Cuts.{cond_ok}
use Rattle.format.proofs.Sound.{reading_sound, fault_ok}
use Rattle.format.proofs.Complete.{accepted}

short_ok : (b : Bool) (e : SheetFault) (x : Result Content SheetFault) (c : Content) → cond b (Err e) x ≡ Ok c → (b ≡ false) × (x ≡ Ok c)
short_ok true e x c h = fault_ok e c h
short_ok false e x c h = (refl, h)

placed_ok : (l r t : ℕ) (x : Result Content SheetFault) (c : Content) → placed l r t x ≡ Ok c → (x ≡ Ok c) × (roomy r t c ≡ true)
placed_ok l r t (Err e) c h = fault_ok e c h
placed_ok l r t (Ok d) c h =
    let q = cond_ok (roomy r t d) (Ok d) (NoRoom l) c h in
    let i : ◌≡◌ {A = Result Content SheetFault} (Ok d) (Ok c) = q.1 in
    let s : d ≡ c = cc in
    (i, ap (roomy r t) (sym s) ∙ q.0)

pub only : (xs : List ℕ) → AllByRecursion Byte xs → (r t : ℕ) (c : Content) → read_sheet xs r t ≡ Ok c → Says xs r t c
unfolding read_sheet whole
only xs b r t c h =
    let p = short_ok (ltb 4096 (length xs)) TooLong _ c h in
    let q = placed_ok (length xs) r t (read_content xs) c p.1 in
    let s = reading_sound (length xs) 0 xs start c tt b q.0 in
    let room = and_parts (leb (length c.rows) r) (leb (term_total c.rows) t) q.1 in
    record { well_formed = s.0; is = s.1; short = ltb-false 4096 (length xs) p.0; rows = leb-true _ _ room.0; terms = leb-true _ _ room.1 }

pub all : (xs : List ℕ) (r t : ℕ) (c : Content) → Says xs r t c → read_sheet xs r t ≡ Ok c
unfolding read_sheet
all xs r t c s =
    let a : read_content xs ≡ Ok c = subst (λ ys. read_content ys ≡ Ok c) (sym s.is) (accepted c s.well_formed 0) in
    let room : roomy r t c ≡ true = and_from (leb (length c.rows) r) (leb (term_total c.rows) t) (le-leb _ _ s.rows) (le-leb _ _ s.terms) in
    rw (le-ltb 4096 (length xs) s.short, a, room)

pub exact : Exact
exact xs b r t c = (only xs b r t c, all xs r t c)
