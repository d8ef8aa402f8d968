use Rattle.std.proofs.Common.{◌≡◌, drop, ◌∙◌, arith, length-drop, w32, SFits, rules}
use borrow.Author.Differences.{ints}
use Rattle.std.proofs.lemmas.Int.{to_z-of_z}
use Rattle.format.specs.Content.{GivenVariable}
use Rattle.format.specs.Reading.{variable_in}
use Rattle.sheet.specs.Held.{name_is}
use Rattle.sheet.proofs.Decoding.{ends_made, ends_bad, variable_out, variable_read, span_missing, nominal_below, nominal_above, name_letters, name_missing, all_told, name_same}
use Rattle.sheet.proofs.decode.variable.Goals as goal
use Rattle.sheet.proofs.decode.variable.Goals.{then-nominal-span-via-then-nominal-span, then-nominal-span-via-else-nominal-span+then-span-nominal}

pub returns-in_err-span : goal.returns-in_err-span
returns-in_err-span c =
    let xs = c.args.bytes.now in
    let g : GivenVariable = variable_in xs in
    rw c.from_residual.ensures
    (variable_out g (span_missing g (ends_bad c.count-lo.result c.count-hi.result g.lo g.hi (search rules) (search rules) c.in_err-span.ensures c.count-lo.ensures (cc))))

pub returns-then-nominal-span : goal.returns-then-nominal-span
returns-then-nominal-span c =
    let xs = c.args.bytes.now in
    let g : GivenVariable = variable_in xs in
    let e = ends_made c.in_ok-span.span c.count-lo.result c.count-hi.result g.lo g.hi (search rules) (search rules) c.in_ok-span.ensures c.count-lo.ensures (cc) in
    let n : c.count-nominal.result ≡ g.nominal = cc in
    variable_out g (elim c.then-nominal-span.branch [
      | then-nominal-span-via-then-nominal-span w ↦ nominal_below g c.in_ok-span.span c.count-nominal.result e.0 e.1 n (omega (arith, ints, w.if-nominal-span.true))
      | then-nominal-span-via-else-nominal-span+then-span-nominal w ↦ nominal_above g c.in_ok-span.span c.count-nominal.result e.0 e.1 n (omega (arith, ints, w.if-span-nominal.true))
    ])

pub returns-in_err-name : goal.returns-in_err-name
returns-in_err-name c =
    let xs = c.args.bytes.now in
    let g : GivenVariable = variable_in xs in
    let e = ends_made c.in_ok-span.span c.count-lo.result c.count-hi.result g.lo g.hi (search rules) (search rules) c.in_ok-span.ensures c.count-lo.ensures (cc) in
    let n : c.count-nominal.result ≡ g.nominal = cc in
    let l = length-drop 12 xs in
    rw c.from_residual-in_err-name.ensures
    (variable_out g (name_missing g c.in_ok-span.span c.count-nominal.result e.0 e.1 n (rw (c.after-3.ensures, name_letters (drop 12 xs) (omega arith) (omega arith)) at c.in_err-name.ensures)))

pub returns : goal.returns
returns c =
    let xs = c.args.bytes.now in
    let g : GivenVariable = variable_in xs in
    let e = ends_made c.in_ok-span.span c.count-lo.result c.count-hi.result g.lo g.hi (search rules) (search rules) c.in_ok-span.ensures c.count-lo.ensures (cc) in
    let n : c.count-nominal.result ≡ g.nominal = cc in
    let f : SFits w32 c.count-nominal.result = search rules in
    let l = length-drop 12 xs in
    let m = rw (c.after-3.ensures, name_letters (drop 12 xs) (omega arith) (omega arith)) at c.in_ok-name.ensures in
    variable_read _ g
    (λ i. record { lo = e.0 i; hi = e.1 i; nominal = (to_z-of_z w32 c.count-nominal.result f ∙ n) i; name = name_same g (name_is c.in_ok-name.name) m i })
    (all_told g c.in_ok-span.span c.count-nominal.result e.0 e.1 n (omega (arith, ints, c.if-nominal-span.false)) (omega (arith, ints, c.if-span-nominal.false)) (name_is c.in_ok-name.name) m)
