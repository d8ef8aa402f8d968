use Rattle.std.proofs.Common.{◌≡◌, ◌≤◌, length, Ok, Err, sym, refl, ap, ◌∙◌, subst, inl, inr, arith, rules}
use Rattle.format.specs.declared.fault.SheetFault.TheVariants.{TooLong, NoRoom}
use Rattle.sheet.specs.declared.sheet.Sheet.{Sheet}
use Rattle.sheet.specs.declared.gather.Gathered.{Gathered}
use Rattle.format.specs.Reading.{read_sheet}
use Rattle.list.specs.Lists.{items, room}
use Rattle.sheet.specs.Sheets.{SheetSays}
use Rattle.sheet.proofs.Whole.{all_bytes, means, says_long, says_refused, says_no_room, says_read, replaced_whole}
use Rattle.sheet.proofs.sheet.Sheet.read.Goals as goal
use Rattle.sheet.proofs.sheet.Sheet.read.Goals.{then-len-places-via-then-len-places, then-len-places-via-else-len-places+then-len-places-2}

pub returns-then-bytes-gt4096 : goal.returns-then-bytes-gt4096
returns-then-bytes-gt4096 c =
    let s = c.args.self.now in
    let h : SheetSays s s (read_sheet c.args.bytes.now (room s.rows) (room s.terms)) (Err TooLong) = says_long s c.args.bytes.now (room s.rows) (room s.terms) c.if-bytes-gt4096.true in
    record { says = h; exact = means s s c.args.bytes.now _ (all_bytes c.args.bytes.now c.type_inv.bytes) h }

pub returns-in_err-gathered : goal.returns-in_err-gathered
returns-in_err-gathered c =
    let s = c.args.self.now in
    let q : c.from_residual.result ≡ Err c.in_err-gathered.field-0.0 = search rules in
    let h = subst (λ r. SheetSays s s (read_sheet c.args.bytes.now (room s.rows) (room s.terms)) r) (sym q)
    (says_refused s c.args.bytes.now (room s.rows) (room s.terms) c.in_err-gathered.field-0.0 c.if-bytes-gt4096.false c.in_err-gathered.ensures) in
    record { says = h; exact = means s s c.args.bytes.now c.from_residual.result (all_bytes c.args.bytes.now c.type_inv.bytes) h }

pub returns-then-len-places : goal.returns-then-len-places
returns-then-len-places c =
    let s = c.args.self.now in
    let h = says_no_room s c.args.bytes.now (room s.rows) (room s.terms) c.in_ok-gathered.gathered c.if-bytes-gt4096.false c.in_ok-gathered.ensures
    (elim c.then-len-places.branch [
      | then-len-places-via-then-len-places w ↦ inl (let f = w.if-len-places.true in omega arith)
      | then-len-places-via-else-len-places+then-len-places-2 w ↦ inr (let e = w.places-else-len-places.ensures in let l = w.len-else-len-places.ensures in let f = w.if-len-places-2.true in omega arith)
    ]) in
    record { says = h; exact = means s s c.args.bytes.now (Err (NoRoom (length c.args.bytes.now))) (all_bytes c.args.bytes.now c.type_inv.bytes) h }

pub returns : goal.returns
returns c =
    let s = c.args.self.now in
    let g : Gathered = c.in_ok-gathered.gathered in
    let t : Sheet = record { heading = g.heading; rows = c.replace.new.self; terms = c.replace-2.new.self } in
    let rows : length g.rows.items ≤ room s.rows = let l = c.if-len-places.false in omega arith in
    let terms : length g.terms.items ≤ room s.terms = let l = c.if-len-places-2.false in omega arith in
    let h = says_read s c.args.bytes.now (room s.rows) (room s.terms) t g c.if-bytes-gt4096.false c.in_ok-gathered.ensures rows terms refl
    (ap items (rw c.as_slice.ensures.value at c.replace.ensures.holds) ∙ replaced_whole (room s.rows) (items s.rows) g.rows.items rows)
    (ap items (rw c.as_slice-2.ensures.value at c.replace-2.ensures.holds) ∙ replaced_whole (room s.terms) (items s.terms) g.terms.items terms)
    (ap room c.replace.ensures.holds) (ap room c.replace-2.ensures.holds) in
    record { says = h; exact = means s t c.args.bytes.now (Ok tt) (all_bytes c.args.bytes.now c.type_inv.bytes) h }
