use Rattle.std.proofs.Common.{◌≡◌, length, Ok, Err, sym, subst, arith, rules}
use Rattle.format.specs.declared.fault.SheetFault.TheVariants.{Field}
use Rattle.sheet.specs.declared.gather.Progress.TheVariants.{More, Done}
use Rattle.format.specs.Reading.{read_content}
use Rattle.sheet.specs.Walk.{ContentSays}
use Rattle.sheet.proofs.Walking.{leads_fault, leads_more, leads_stop, leads_done, leads_trailing, shorter_next, as_progress, placed_at}
use Rattle.sheet.proofs.walk.read_content.Goals as goal

pub returns-in_err-field : goal.returns-in_err-field
returns-in_err-field c =
    let q : c.from_residual.result ≡ Err (Field c.in_err-field.field-0.0) = search rules in
    subst (λ r. ContentSays r (read_content c.args.bytes.now)) (sym q)
    (leads_fault c.fields.gathered _ c.fields.rest.now _ c.fields.invariant.1 _ c.len.ensures.value c.in_err-field.field-0.0 c.in_err-field.ensures.cut)

pub returns-in_err-take : goal.returns-in_err-take
returns-in_err-take c =
    let q : c.from_residual-in_err-take.result ≡ Err c.in_err-take.field-0.0 = search rules in
    subst (λ r. ContentSays r (read_content c.args.bytes.now)) (sym q)
    (leads_stop c.fields.gathered c.take.new.self (length c.args.bytes.now) c.fields.rest.now _ c.fields.invariant.1 c.fields.invariant.0 _ c.len.ensures.value _ c.in_ok-field.ensures.cut c.in_err-take.field-0.0 (placed_at (Err c.in_err-take.field-0.0) c.fields.gathered c.take.new.self _ _ _ _ c.in_ok-field.ensures.placed c.in_err-take.ensures))

pub fields-smaller : goal.fields-smaller
fields-smaller c = shorter_next c.fields.gathered c.take.new.self (length c.args.bytes.now) c.fields.rest.now _ c.fields.invariant.1 c.fields.invariant.0 _ c.len.ensures.value _ c.in_ok-field.ensures.cut

pub fields-preserved : goal.fields-preserved
fields-preserved c =
    let s = shorter_next c.fields.gathered c.take.new.self (length c.args.bytes.now) c.fields.rest.now _ c.fields.invariant.1 c.fields.invariant.0 _ c.len.ensures.value _ c.in_ok-field.ensures.cut in (
      omega arith,
      leads_more c.fields.gathered c.take.new.self (length c.args.bytes.now) c.fields.rest.now _ c.fields.invariant.1 c.fields.invariant.0 _ c.len.ensures.value _ c.in_ok-field.ensures.cut
          (placed_at (Ok More) c.fields.gathered c.take.new.self _ _ _ _ c.in_ok-field.ensures.placed (λ d i. as_progress c.in_ok-take.field-0 More c.in-More.is c.take.new.self _ (c.in_ok-take.ensures d i))),
    )

pub overflow_sub-result : goal.overflow_sub-result
overflow_sub-result c =
    let s = shorter_next c.fields.gathered c.take.new.self (length c.args.bytes.now) c.fields.rest.now _ c.fields.invariant.1 c.fields.invariant.0 _ c.len.ensures.value _ c.in_ok-field.ensures.cut in
    omega arith

pub returns-in-Done-2 : goal.returns-in-Done-2
returns-in-Done-2 c =
    leads_trailing c.fields.gathered c.take.new.self (length c.args.bytes.now) c.fields.rest.now _ c.fields.invariant.1 c.fields.invariant.0 _ c.len.ensures.value _ c.in_ok-field.ensures.cut
    (placed_at (Ok Done) c.fields.gathered c.take.new.self _ _ _ _ c.in_ok-field.ensures.placed (λ d i. as_progress c.in_ok-take.field-0 Done c.in-Done-2.is c.take.new.self _ (c.in_ok-take.ensures d i))) (search rules)

pub returns-in-Done : goal.returns-in-Done
returns-in-Done c =
    leads_done c.fields.gathered c.take.new.self (length c.args.bytes.now) c.fields.rest.now _ c.fields.invariant.1 c.fields.invariant.0 _ c.len.ensures.value _ c.in_ok-field.ensures.cut
    (placed_at (Ok Done) c.fields.gathered c.take.new.self _ _ _ _ c.in_ok-field.ensures.placed (λ d i. as_progress c.in_ok-take.field-0 Done c.in-Done.is c.take.new.self _ (c.in_ok-take.ensures d i))) (search rules)
