-- What is well formed is accepted as it is written.
use Rattle.std.proofs.Common.{◌≡◌, ℕ, ◌+◌, ◌<◌, ◌≤◌, true, leb, ◌≢◌, List, [], ◌∷◌, ◌++◌, length, Ok, sym, refl, ap, ◌∙◌, subst, append_assoc, arith, length-append}
use Rattle.std.specs.List.{AllByRecursion}
use Rattle.std.proofs.lemmas.List.{append-nil}
use Rattle.std.proofs.lemmas.Bool.{le-leb, lt-leb, eq-eqb, and_from}
use Rattle.format.specs.Content.{Limits, at_least, at_most, between, GivenVariable, GivenRow, Content, GoodVariable, Different, GoodTerm, GoodLimits, GoodRow, GoodTolerance, WellFormed}
use Rattle.numbers.specs.Rows.{Term}
use Rattle.format.specs.Written.{FieldKind, a_variable, a_tolerance, a_row, a_term, an_end, four, field, variable_content, limits_content, term_content, variables_written, terms_written, row_written, rows_written, written}
use Rattle.format.specs.Fields.{right_length}
use Rattle.format.specs.Reading.{Draft, start, variables, tolerance, row, terms, goes_on, variable_count, variable_in, term_in, limits_in, add_variable, set_tolerance, add_row, add_term, closed, step, after_step, after_field, whole}
use Rattle.format.proofs.Bytes.{number_four}
use Rattle.format.proofs.Decide.{decides_variable, decides_term, decides_limits, decides_tolerance, not_taken}
use Rattle.format.proofs.Contents.{variable_there, term_there, limits_there}
use Rattle.format.proofs.Cuts.{again, whole_is}

-- from the draft d on, the sheet rest is accepted as c, at whatever place
abbrev pub Accepts : List ℕ → Draft → Content → Type 0
Accepts rest d c = (p : ℕ) → whole p rest d ≡ Ok c

-- one field of the right length, after which the draft is e
one_field : (k : FieldKind) (xs rest : List ℕ) (d e : Draft) (c : Content) → right_length (variable_count d) k (length xs) ≡ true → ((p : ℕ) → step d p k xs ≡ goes_on e) → Accepts rest e c → Accepts (field k xs ++ rest) d c
one_field k xs rest d e c l s a p =
    whole_is p (field k xs ++ rest) d
    ∙ ap (after_field whole p d) (again (variable_count d) p k xs rest l)
    ∙ ap (after_step whole (p + (3 + length xs)) rest) (s p)
    ∙ a (p + (3 + length xs))

-- the draft when some variables, or none, have been read
abbrev pub begun : List GivenVariable → Draft
begun [] = start
begun (v ∷ vs) = variables (v ∷ vs)

begun_step : (vs : List GivenVariable) (p : ℕ) (xs : List ℕ) → step (begun vs) p a_variable xs ≡ add_variable vs p (variable_in xs)
begun_step [] p xs = refl
begun_step (v ∷ vs) p xs = refl

begun_push : (vs : List GivenVariable) (v : GivenVariable) → variables (vs ++ v ∷ []) ≡ begun (vs ++ v ∷ [])
begun_push [] v = refl
begun_push (w ∷ ws) v = refl

all_mid : (P : GivenVariable → Type 0) (vs : List GivenVariable) (w : GivenVariable) (ws : List GivenVariable) → AllByRecursion P (vs ++ w ∷ ws) → P w
all_mid P [] w ws h = h.0
all_mid P (v ∷ vs) w ws h = all_mid P vs w ws h.1

fresh : (vs : List GivenVariable) (w : GivenVariable) (ws : List GivenVariable) → Different (vs ++ w ∷ ws) → AllByRecursion (λ u. u.name ≢ w.name) vs
fresh [] w ws h = tt
fresh (v ∷ vs) w ws h = (all_mid (λ u. v.name ≢ u.name) vs w ws h.0, fresh vs w ws h.1)

variable_step : (vs : List GivenVariable) (v : GivenVariable) (p : ℕ) → length vs < 8 → GoodVariable v → AllByRecursion (λ u. u.name ≢ v.name) vs → add_variable vs p v ≡ goes_on (begun (vs ++ v ∷ []))
variable_step vs v p l g f =
    let told = (decides_variable v).1 (g.lo_count, (g.hi_count, (g.nominal_count, (g.from_lo, (g.to_hi, g.letters))))) in
    rw (lt-leb 8 (length vs) l, told, not_taken v.name vs f) (ap goes_on (begun_push vs v))

accept_variable : (vs : List GivenVariable) (v : GivenVariable) (rest : List ℕ) (c : Content) → length vs < 8 → GoodVariable v → AllByRecursion (λ u. u.name ≢ v.name) vs → Accepts rest (begun (vs ++ v ∷ [])) c → Accepts (field a_variable (variable_content v) ++ rest) (begun vs) c
accept_variable vs v rest c l g f a =
    let few = g.short in
    let some = g.named in
    one_field a_variable (variable_content v) rest (begun vs) (begun (vs ++ v ∷ [])) c
    (and_from (leb 13 (length (variable_content v))) (leb (length (variable_content v)) 20) (le-leb 13 (length (variable_content v)) (omega arith)) (le-leb (length (variable_content v)) 20 (omega arith)))
    (λ p. begun_step vs p (variable_content v) ∙ ap (add_variable vs p) (variable_there v g) ∙ variable_step vs v p l g f)
    a

accept_variables : (vs ws : List GivenVariable) (rest : List ℕ) (c : Content) → length (vs ++ ws) ≤ 8 → AllByRecursion GoodVariable ws → Different (vs ++ ws) → Accepts rest (begun (vs ++ ws)) c → Accepts (variables_written ws ++ rest) (begun vs) c
accept_variables vs [] rest c l g d a = subst (λ us. Accepts rest (begun us) c) (append-nil vs) a
accept_variables vs (w ∷ ws) rest c l g d a =
    let e : vs ++ (w ∷ ws) ≡ (vs ++ w ∷ []) ++ ws = sym (append_assoc vs (w ∷ []) ws) in
    let m = length-append vs (w ∷ ws) in
    let ih : Accepts (variables_written ws ++ rest) (begun (vs ++ w ∷ [])) c =
    accept_variables (vs ++ w ∷ []) ws rest c (subst (λ us. length us ≤ 8) e l) g.1 (subst Different e d) (subst (λ us. Accepts rest (begun us) c) e a) in
    let one : Accepts (field a_variable (variable_content w) ++ (variables_written ws ++ rest)) (begun vs) c =
    accept_variable vs w (variables_written ws ++ rest) c (omega arith) g.0 (fresh vs w ws d) ih in
    subst (λ xs. Accepts xs (begun vs) c) (sym (append_assoc (field a_variable (variable_content w)) (variables_written ws) rest)) one

accept_tolerance : (vs : List GivenVariable) (t : ℕ) (rest : List ℕ) (c : Content) → 1 ≤ length vs → GoodTolerance t → Accepts rest (tolerance vs t) c → Accepts (field a_tolerance (four t) ++ rest) (begun vs) c
accept_tolerance [] t rest c l g a = absurd (omega arith)
accept_tolerance (v ∷ vs) t rest c l g a =
    one_field a_tolerance (four t) rest (variables (v ∷ vs)) (tolerance (v ∷ vs) t) c refl
    (λ p. ap (set_tolerance (v ∷ vs) p) (number_four t [] (let h = g.1 in omega arith)) ∙ rw ((decides_tolerance t).1 g))
    a

-- after d a row follows the rows rs
abbrev TakesRow : Draft → List GivenVariable → ℕ → List GivenRow → Type 0
TakesRow d vs t rs = (p : ℕ) (xs : List ℕ) → step d p a_row xs ≡ add_row vs t rs p (limits_in xs)

limits_length : (n : ℕ) (k : Limits) → right_length n a_row (length (limits_content k)) ≡ true
limits_length n (at_least lo) = refl
limits_length n (at_most hi) = refl
limits_length n (between lo hi) = refl

accept_row : (d : Draft) (vs : List GivenVariable) (t : ℕ) (rs : List GivenRow) (k : Limits) (rest : List ℕ) (c : Content) → TakesRow d vs t rs → length rs < 16 → GoodLimits k → Accepts rest (row vs t rs k) c → Accepts (field a_row (limits_content k) ++ rest) d c
accept_row d vs t rs k rest c s l g a =
    one_field a_row (limits_content k) rest d (row vs t rs k) c (limits_length (variable_count d) k)
    (λ p. s p (limits_content k) ∙ ap (add_row vs t rs p) (limits_there k g) ∙ rw (lt-leb 16 (length rs) l, (decides_limits k).1 g))
    a

-- after d a term follows the terms ts of the open row
record TakesTerm (d : Draft) (vs : List GivenVariable) (t : ℕ) (rs : List GivenRow) (k : Limits) (ts : List Term) : Type 0 where
  pub so : (p : ℕ) (xs : List ℕ) → step d p a_term xs ≡ add_term vs t rs k ts p (term_in xs)
  pub count : variable_count d ≡ length vs

accept_term : (d : Draft) (vs : List GivenVariable) (t : ℕ) (rs : List GivenRow) (k : Limits) (ts : List Term) (x : Term) (rest : List ℕ) (c : Content) → TakesTerm d vs t rs k ts → length ts < 12 → GoodTerm (length vs) x → Accepts rest (terms vs t rs k (ts ++ x ∷ [])) c → Accepts (field a_term (term_content x) ++ rest) d c
accept_term d vs t rs k ts x rest c s l g a =
    let e = g.each in
    let n = s.count in
    one_field a_term (term_content x) rest d (terms vs t rs k (ts ++ x ∷ [])) c
    (eq-eqb (length (term_content x)) (4 + variable_count d) (omega arith))
    (λ p. s.so p (term_content x) ∙ ap (add_term vs t rs k ts p) (term_there (length vs) x g) ∙ rw (lt-leb 12 (length ts) l, (decides_term x).1 (g.c_count, g.small)))
    a

accept_terms : (vs : List GivenVariable) (t : ℕ) (rs : List GivenRow) (k : Limits) (ts xs : List Term) (rest : List ℕ) (c : Content) → length (ts ++ xs) ≤ 12 → AllByRecursion (GoodTerm (length vs)) xs → Accepts rest (terms vs t rs k (ts ++ xs)) c → Accepts (terms_written xs ++ rest) (terms vs t rs k ts) c
accept_terms vs t rs k ts [] rest c l g a = subst (λ us. Accepts rest (terms vs t rs k us) c) (append-nil ts) a
accept_terms vs t rs k ts (x ∷ xs) rest c l g a =
    let e : ts ++ (x ∷ xs) ≡ (ts ++ x ∷ []) ++ xs = sym (append_assoc ts (x ∷ []) xs) in
    let m = length-append ts (x ∷ xs) in
    let ih : Accepts (terms_written xs ++ rest) (terms vs t rs k (ts ++ x ∷ [])) c =
    accept_terms vs t rs k (ts ++ x ∷ []) xs rest c (subst (λ us. length us ≤ 12) e l) g.1 (subst (λ us. Accepts rest (terms vs t rs k us) c) e a) in
    let one : Accepts (field a_term (term_content x) ++ (terms_written xs ++ rest)) (terms vs t rs k ts) c =
    accept_term (terms vs t rs k ts) vs t rs k ts x (terms_written xs ++ rest) c (record { so = λ p ys. refl; count = refl }) (omega arith) g.0 ih in
    subst (λ us. Accepts us (terms vs t rs k ts) c) (sym (append_assoc (field a_term (term_content x)) (terms_written xs) rest)) one

-- all terms of a row, of which there is one at least
accept_all_terms : (vs : List GivenVariable) (t : ℕ) (rs : List GivenRow) (k : Limits) (xs : List Term) (rest : List ℕ) (c : Content) → 1 ≤ length xs → length xs ≤ 12 → AllByRecursion (GoodTerm (length vs)) xs → Accepts rest (terms vs t rs k xs) c → Accepts (terms_written xs ++ rest) (row vs t rs k) c
accept_all_terms vs t rs k [] rest c s l g a = absurd (omega arith)
accept_all_terms vs t rs k (x ∷ xs) rest c s l g a =
    let ih : Accepts (terms_written xs ++ rest) (terms vs t rs k (x ∷ [])) c = accept_terms vs t rs k (x ∷ []) xs rest c l g.1 a in
    let one : Accepts (field a_term (term_content x) ++ (terms_written xs ++ rest)) (row vs t rs k) c =
    accept_term (row vs t rs k) vs t rs k [] x (terms_written xs ++ rest) c (record { so = λ p ys. refl; count = refl }) (omega arith) g.0 ih in
    subst (λ us. Accepts us (row vs t rs k) c) (sym (append_assoc (field a_term (term_content x)) (terms_written xs) rest)) one

accept_whole_row : (d : Draft) (vs : List GivenVariable) (t : ℕ) (rs : List GivenRow) (q : GivenRow) (rest : List ℕ) (c : Content) → TakesRow d vs t rs → length rs < 16 → GoodRow (length vs) q → Accepts rest (terms vs t rs q.limits q.terms) c → Accepts (row_written q ++ rest) d c
accept_whole_row d vs t rs q rest c s l g a =
    subst (λ us. Accepts us d c) (sym (append_assoc (field a_row (limits_content q.limits)) (terms_written q.terms) rest))
    (accept_row d vs t rs q.limits (terms_written q.terms ++ rest) c s l g.limits (accept_all_terms vs t rs q.limits q.terms rest c g.some g.most g.each a))

accept_end : (vs : List GivenVariable) (t : ℕ) (rs : List GivenRow) (k : Limits) (ts : List Term) → Accepts (field an_end []) (terms vs t rs k ts) (record { variables = vs; tolerance = t; rows = closed rs k ts })
accept_end vs t rs k ts p = whole_is p (field an_end []) (terms vs t rs k ts)

accept_rows : (d : Draft) (vs : List GivenVariable) (t : ℕ) (rs : List GivenRow) (q : GivenRow) (qs : List GivenRow) → TakesRow d vs t rs → length (rs ++ q ∷ qs) ≤ 16 → AllByRecursion (GoodRow (length vs)) (q ∷ qs) → Accepts (rows_written (q ∷ qs) ++ field an_end []) d (record { variables = vs; tolerance = t; rows = rs ++ q ∷ qs })
accept_rows d vs t rs q [] s l g =
    let m = length-append rs (q ∷ []) in
    subst (λ us. Accepts (us ++ field an_end []) d (record { variables = vs; tolerance = t; rows = rs ++ q ∷ [] })) (sym (append-nil (row_written q)))
    (accept_whole_row d vs t rs q (field an_end []) (record { variables = vs; tolerance = t; rows = rs ++ q ∷ [] }) s (omega arith) g.0 (accept_end vs t rs q.limits q.terms))
accept_rows d vs t rs q (r ∷ qs) s l g =
    let m = length-append rs (q ∷ r ∷ qs) in
    let c : Content = record { variables = vs; tolerance = t; rows = rs ++ q ∷ r ∷ qs } in
    let e : (rs ++ q ∷ []) ++ (r ∷ qs) ≡ rs ++ q ∷ r ∷ qs = append_assoc rs (q ∷ []) (r ∷ qs) in
    let ih : Accepts (rows_written (r ∷ qs) ++ field an_end []) (terms vs t rs q.limits q.terms) c =
    subst (λ us. Accepts (rows_written (r ∷ qs) ++ field an_end []) (terms vs t rs q.limits q.terms) (record { variables = vs; tolerance = t; rows = us })) e
    (accept_rows (terms vs t rs q.limits q.terms) vs t (rs ++ q ∷ []) r qs (λ p xs. refl) (subst (λ us. length us ≤ 16) (sym e) l) g.1) in
    subst (λ us. Accepts us d c) (sym (append_assoc (row_written q) (rows_written (r ∷ qs)) (field an_end [])))
    (accept_whole_row d vs t rs q (rows_written (r ∷ qs) ++ field an_end []) c s (omega arith) g.0 ih)

accept_from_rows : (vs : List GivenVariable) (t : ℕ) (rs : List GivenRow) → 1 ≤ length rs → length rs ≤ 16 → AllByRecursion (GoodRow (length vs)) rs → Accepts (rows_written rs ++ field an_end []) (tolerance vs t) (record { variables = vs; tolerance = t; rows = rs })
accept_from_rows vs t [] s l g = absurd (omega arith)
accept_from_rows vs t (q ∷ qs) s l g = accept_rows (tolerance vs t) vs t [] q qs (λ p xs. refl) l g

pub accepted : (c : Content) → WellFormed c → Accepts (written c) start c
accepted c g =
    accept_variables [] c.variables (field a_tolerance (four c.tolerance) ++ (rows_written c.rows ++ field an_end [])) c g.variables.most g.variables.each g.variables.different
    (accept_tolerance c.variables c.tolerance (rows_written c.rows ++ field an_end []) c g.variables.some g.tolerance
    (accept_from_rows c.variables c.tolerance c.rows g.some g.most g.each))
