use Rattle.std.proofs.Common.{◌≡◌, ℕ, ◌+◌, ◌-◌, ◌<◌, List, length, get_or, set, Err, sym, ap, ◌∙◌, subst, arith, length-set, rules}
use Rattle.arrayvec.proofs.ArrayVecLemmas.{items-with_items}
use Rattle.format.specs.Reading.{add_term, term_in}
use Rattle.sheet.specs.declared.shape.Row.{Row}
use Rattle.sheet.specs.Held.{told, term_is}
use Rattle.sheet.specs.Gathering.{Goes, Open}
use Rattle.format.specs.declared.fault.SheetFault.TheVariants.{OutOfRange}
use Rattle.std.proofs.lemmas.List.{get_or_default}
use Rattle.sheet.proofs.Filled.{some_row}
use Rattle.sheet.proofs.Steps.{many_terms, term_stops, room_for_term, term_goes}
use Rattle.sheet.proofs.gather.Gathered.add_term.Goals as goal

same_set : (xs ys : List Row) (n : ℕ) (r d e : Row) → xs ≡ ys → n < length ys → r ≡ get_or ys n r → set xs n (record { bounds = (get_or xs n d).bounds; own = (get_or xs n e).own + 1 }) ≡ set ys n (record { bounds = r.bounds; own = r.own + 1 })
same_set xs ys n r d e is h r-is =
    let p : get_or ys n d ≡ r = get_or_default ys n d r h ∙ sym r-is in
    let q : get_or ys n e ≡ r = get_or_default ys n e r h ∙ sym r-is in
    rw is (λ i. set ys n (record { bounds = (p i).bounds; own = (q i).own + 1 }))

pub returns-then-deref-last-ge12 : goal.returns-then-deref-last-ge12
returns-then-deref-last-ge12 c = λ vs rs k ts o.
    many_terms c.args.self.now vs rs k ts o (c.len-last.result - 1) c.index-deref-last.result (ap (λ n. n - 1) c.len-last.ensures.value) (search rules) c.args.place (term_in c.args.bytes.now)
    (omega (arith, ap (λ (r : Row). r.own) c.index-deref-last.is))

pub returns-in_err-t : goal.returns-in_err-t
returns-in_err-t c = λ vs rs k ts o.
    let s = term_stops c.args.self.now vs rs k ts o (c.len-last.result - 1) c.index-deref-last.result (ap (λ n. n - 1) c.len-last.ensures.value) (search rules) c.args.place (term_in c.args.bytes.now)
    (omega (arith, ap (λ (r : Row). r.own) c.index-deref-last.is)) (ap (told term_is) (sym c.in_err-t.ensures.ok_part) ∙ c.term.ensures) in
    let q : c.from_residual.result ≡ Err (OutOfRange c.args.place) = search rules in
    subst (λ r. Goes r c.args.self.now (add_term vs c.args.self.now.heading.tolerance rs k ts c.args.place (term_in c.args.bytes.now))) (sym q) s

pub push-requires : goal.push-requires
push-requires c =
    let o : Open c.args.self.now = c.requires.row in
    let few = room_for_term c.args.self.now o.vs o.rs o.k o.ts o.held (c.len-last.result - 1) c.index-deref-last.result (ap (λ n. n - 1) c.len-last.ensures.value) (search rules)
    (omega (arith, ap (λ (r : Row). r.own) c.index-deref-last.is)) in
    search rules

pub returns : goal.returns
returns c = λ vs rs k ts o.
    let w = c.deref_mut.ensures.value in
    let n = c.len-last.result - 1 in
    let v = c.len-last.ensures.value in
    let l = some_row c.args.self.now vs rs k ts o in
    term_goes c.args.self.now vs rs k ts o (c.len-last.result - 1) c.index-deref-last.result (ap (λ n. n - 1) c.len-last.ensures.value) (search rules) _ c.push.new.self c.args.place c.in_ok-t.t (term_in c.args.bytes.now) c.requires.state
    (omega (arith, ap (λ (r : Row). r.own) c.index-deref-last.is)) (ap (told term_is) (sym c.in_ok-t.ensures.ok_part) ∙ c.term.ensures) c.push.ensures.items (items-with_items _ _ (length-set c.deref_mut.result.now n _ ∙ ap length w) ∙ same_set c.deref_mut.result.now c.args.self.now.rows.items n c.index-deref-last.result _ _ w (omega arith) (search rules))
