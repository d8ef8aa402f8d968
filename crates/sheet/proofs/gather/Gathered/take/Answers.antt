use Rattle.std.proofs.Common.{◌≡◌, Ok, Err, sym, ◌∙◌, subst, rules, tests}
use Rattle.sheet.specs.Gathering.{Takes}
use Rattle.sheet.specs.declared.gather.Progress.TheVariants.{More}
use Rattle.sheet.proofs.Taking.{holds_few, takes_variable, takes_term, goes_ok, goes_err}
use Rattle.sheet.proofs.gather.Gathered.take.Goals as goal

pub returns-in_err-add_variable-in-Variable : goal.returns-in_err-add_variable-in-Variable
returns-in_err-add_variable-in-Variable c =
    let e : c.from_residual-in_err-add_variable-in-Variable.result ≡ Err c.in_err-add_variable-in-Variable.field-0.0 = search rules in
    takes_variable c.from_residual-in_err-add_variable-in-Variable.result (Err c.in_err-add_variable-in-Variable.field-0.0) c.args.self.now c.add_variable.new.self c.args.placed.place c.args.placed.field c.in-Variable.bytes c.in_ok-self.field-0 c.in-Variable.is (sym c.in_ok-self.ensures.ok_part ∙ c.next.ensures)
    (λ t g. subst (λ r. Takes r c.add_variable.new.self t) (sym e) (goes_err c.add_variable.new.self c.in_err-add_variable-in-Variable.field-0.0 t g)) c.in_err-add_variable-in-Variable.ensures

pub add_term-requires-clause-length : goal.add_term-requires-clause-length
add_term-requires-clause-length c =
    let few = holds_few c.args.self.now c.requires.drafted.d c.requires.drafted.holds in
    let long = rw c.in-Term.is at c.requires.length in
    search (rules, tests)

pub returns-in_err-add_term-in-Term : goal.returns-in_err-add_term-in-Term
returns-in_err-add_term-in-Term c =
    let e : c.from_residual-in_err-add_term-in-Term.result ≡ Err c.in_err-add_term-in-Term.field-0.0 = search rules in
    takes_term c.from_residual-in_err-add_term-in-Term.result (Err c.in_err-add_term-in-Term.field-0.0) c.args.self.now c.add_term.new.self c.args.placed.place c.args.placed.field c.in-Term.bytes c.in_ok-self.field-0 c.in-Term.is (sym c.in_ok-self.ensures.ok_part ∙ c.next.ensures)
    (λ t g. subst (λ r. Takes r c.add_term.new.self t) (sym e) (goes_err c.add_term.new.self c.in_err-add_term-in-Term.field-0.0 t g)) c.in_err-add_term-in-Term.ensures

pub returns-in_ok-add_variable-in-Variable : goal.returns-in_ok-add_variable-in-Variable
returns-in_ok-add_variable-in-Variable c =
    takes_variable (Ok More) (Ok tt) c.args.self.now c.add_variable.new.self c.args.placed.place c.args.placed.field c.in-Variable.bytes c.in_ok-self.field-0 c.in-Variable.is (sym c.in_ok-self.ensures.ok_part ∙ c.next.ensures)
    (goes_ok c.add_variable.new.self) c.in_ok-add_variable-in-Variable.ensures

pub returns-in_ok-add_term-in-Term : goal.returns-in_ok-add_term-in-Term
returns-in_ok-add_term-in-Term c =
    takes_term (Ok More) (Ok tt) c.args.self.now c.add_term.new.self c.args.placed.place c.args.placed.field c.in-Term.bytes c.in_ok-self.field-0 c.in-Term.is (sym c.in_ok-self.ensures.ok_part ∙ c.next.ensures)
    (goes_ok c.add_term.new.self) c.in_ok-add_term-in-Term.ensures
