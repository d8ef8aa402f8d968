-- What the reader accepts is well formed, and is the sheet as it is written.
use Rattle.std.proofs.Common.{◌≡◌, ℕ, zero, suc, ◌+◌, ◌≤◌, true, false, ◌&&◌, leb, ◌≢◌, ◌⊎◌, List, [], ◌∷◌, ◌++◌, length, Some, None, Ok, Err, Option, Result, sym, refl, ap, ◌∙◌, subst, append_assoc, arith, length-append, length-drop}
use Rattle.std.specs.List.{AllByRecursion}
use Rattle.std.proofs.lemmas.List.{flat_map_more, drop_all, append-nil}
use Rattle.std.proofs.ByRecursion.{All-push}
use Rattle.std.proofs.lemmas.Bool.{leb-true, leb-false, eqb-true, and_parts, or_cases, cond_both}
use Rattle.format.specs.declared.fault.FieldFault.{FieldFault}
use Rattle.format.specs.declared.fault.SheetFault.{SheetFault}
use Rattle.numbers.specs.Rows.{Term}
use Rattle.format.specs.Content.{GivenVariable, GivenRow, Content, Limits, GoodVariable, GoodVariables, Different, GoodTerm, GoodLimits, GoodRow, GoodTolerance, WellFormed}
use Rattle.format.specs.Written.{FieldKind, a_variable, a_tolerance, a_row, a_term, an_end, four, field, variable_content, limits_content, term_content, variables_written, row_written, rows_written, written}
use Rattle.format.specs.Fields.{Cut, right_length, read_field}
use Rattle.format.specs.Reading.{Draft, start, variables, tolerance, row, terms, Step, goes_on, ends, stops, variable_count, variable_in, term_in, limits_in, number_in, good_variable, good_term, good_limits, taken, add_variable, set_tolerance, add_row, kept_limits, add_term, closed, step, ended, after_step, after_field, reading}
use Rattle.format.specs.Theorem.{Byte}
use Rattle.format.proofs.Bytes.{four_of, count_of}
use Rattle.format.proofs.Decide.{decides_variable, decides_term, decides_limits, decides_tolerance, taken_not}
use Rattle.format.proofs.Contents.{variable_of, limits_of, five_or_nine}
use Rattle.format.proofs.Cuts.{front}

abbrev pub Good : Draft → Type 0
Good start = Unit {0}
Good (variables vs) = GoodVariables vs
Good (tolerance vs t) = GoodVariables vs × GoodTolerance t
Good (row vs t rs k) = GoodVariables vs × GoodTolerance t × (length rs ≤ 15) × AllByRecursion (GoodRow (length vs)) rs × GoodLimits k
Good (terms vs t rs k ts) = GoodVariables vs × GoodTolerance t × (length rs ≤ 15) × AllByRecursion (GoodRow (length vs)) rs × GoodRow (length vs) (record { limits = k; terms = ts })

abbrev head : List GivenVariable → ℕ → List ℕ
head vs t = variables_written vs ++ field a_tolerance (four t)

-- the bytes of what was read so far
abbrev pub so_far : Draft → List ℕ
so_far start = []
so_far (variables vs) = variables_written vs
so_far (tolerance vs t) = head vs t
so_far (row vs t rs k) = head vs t ++ (rows_written rs ++ field a_row (limits_content k))
so_far (terms vs t rs k ts) = head vs t ++ (rows_written rs ++ row_written (record { limits = k; terms = ts }))

abbrev StepSound : Draft → List ℕ → Step → Type 0
StepSound d f (goes_on e) = Good e × (so_far d ++ f ≡ so_far e)
StepSound d f (ends c) = WellFormed c × (so_far d ++ f ≡ written c)
StepSound d f (stops e) = Unit {0}

different_push : (vs : List GivenVariable) (v : GivenVariable) → Different vs → AllByRecursion (λ w. w.name ≢ v.name) vs → Different (vs ++ v ∷ [])
different_push [] v d h = (tt, tt)
different_push (w ∷ ws) v d h = (All-push (λ u. w.name ≢ u.name) ws v d.0 h.0, different_push ws v d.1 h.1)

variable_sound : (d : Draft) (vs : List GivenVariable) (p : ℕ) (xs : List ℕ) → so_far d ≡ variables_written vs → AllByRecursion GoodVariable vs → Different vs → AllByRecursion Byte xs → 13 ≤ length xs → length xs ≤ 20 → StepSound d (field a_variable xs) (add_variable vs p (variable_in xs))
variable_sound d vs p xs s each diff b l m =
    let v : GivenVariable = variable_in xs in
    let P : Step → Type 0 = StepSound d (field a_variable xs) in
    cond_both (leb 8 (length vs)) _ _ P (λ e. tt)
    (λ e. cond_both (good_variable v) _ _ P
    (λ g. cond_both (taken v.name vs) _ _ P (λ n. tt)
    (λ n.
    let told = (decides_variable v).0 g in
    let few = leb-false 8 (length vs) e in
    let more = length-append vs (v ∷ []) in
    let name-length = length-drop 12 xs in
    let good : GoodVariable v = record { lo_count = told.0; hi_count = told.1.0; nominal_count = told.1.1.0; from_lo = told.1.1.1.0; to_hi = told.1.1.1.1.0; named = omega arith; short = omega arith; letters = told.1.1.1.1.1 } in (
      record { some = omega arith; most = omega arith; each = All-push GoodVariable vs v each good; different = different_push vs v diff (taken_not v.name vs n) },
      (λ i. s i ++ field a_variable (variable_of xs b (omega arith) i)) ∙ flat_map_more (λ w. field a_variable (variable_content w)) [] vs v,
    )))
    (λ g. tt))

tolerance_sound : (vs : List GivenVariable) (p : ℕ) (xs : List ℕ) → GoodVariables vs → AllByRecursion Byte xs → length xs ≡ 4 → StepSound (variables vs) (field a_tolerance xs) (set_tolerance vs p (number_in xs))
tolerance_sound vs p xs g b l =
    let P : Step → Type 0 = StepSound (variables vs) (field a_tolerance xs) in
    cond_both (leb 1 (number_in xs) && leb (number_in xs) 2147483647) _ _ P
    (λ e. (
      (g, (decides_tolerance (number_in xs)).0 e),
      ap (λ (ys : List ℕ). variables_written vs ++ field a_tolerance ys) (four_of xs b (omega arith) ∙ ap (λ (zs : List ℕ). four (number_in xs) ++ zs) (drop_all 4 xs (omega arith))),
    ))
    (λ e. tt)

-- d is a draft whose rows, all of them complete, are rs
row_sound : (d : Draft) (vs : List GivenVariable) (t : ℕ) (rs : List GivenRow) (p : ℕ) (xs : List ℕ) → so_far d ≡ head vs t ++ rows_written rs → GoodVariables vs → GoodTolerance t → AllByRecursion (GoodRow (length vs)) rs → AllByRecursion Byte xs → (length xs ≡ 5) ⊎ (length xs ≡ 9) → StepSound d (field a_row xs) (add_row vs t rs p (limits_in xs))
row_sound d vs t rs p xs s gv gt gr b l =
    cond_both (leb 16 (length rs)) _ _ P (λ e. tt) (λ e. go e (limits_in xs) refl)
  where
    P : Step → Type 0
    P = StepSound d (field a_row xs)

    go : leb 16 (length rs) ≡ false → (o : Option Limits) → limits_in xs ≡ o → StepSound d (field a_row xs) (kept_limits vs t rs p o)
    go e None h = tt
    go e (Some k) h =
        let few = leb-false 16 (length rs) e in
        cond_both (good_limits k) _ _ (StepSound d (field a_row xs))
        (λ g. ((gv, gt, omega arith, gr, (decides_limits k).0 g), (λ i. s i ++ field a_row (limits_of xs k b l h i)) ∙ append_assoc (head vs t) (rows_written rs) (field a_row (limits_content k))))
        (λ g. tt)

-- d is a draft whose last row has the terms ts so far
term_sound : (d : Draft) (vs : List GivenVariable) (t : ℕ) (rs : List GivenRow) (k : Limits) (ts : List Term) (p : ℕ) (xs : List ℕ) → so_far d ≡ head vs t ++ (rows_written rs ++ row_written (record { limits = k; terms = ts })) → GoodVariables vs → GoodTolerance t → length rs ≤ 15 → AllByRecursion (GoodRow (length vs)) rs → GoodLimits k → AllByRecursion (GoodTerm (length vs)) ts → AllByRecursion Byte xs → length xs ≡ 4 + length vs → StepSound d (field a_term xs) (add_term vs t rs k ts p (term_in xs))
term_sound d vs t rs k ts p xs s gv gt few gr gk gts b l =
    let x : Term = term_in xs in
    let P : Step → Type 0 = StepSound d (field a_term xs) in
    let f : Term → List ℕ = λ y. field a_term (term_content y) in
    let kc : List ℕ = field a_row (limits_content k) in
    cond_both (leb 12 (length ts)) _ _ P (λ e. tt)
    (λ e. cond_both (good_term x) _ _ P
    (λ g.
    let told = (decides_term x).0 g in
    let few_terms = leb-false 12 (length ts) e in
    let more = length-append ts (x ∷ []) in
    let exponent-length = length-drop 4 xs in
    let good : GoodTerm (length vs) x = record { c_count = told.0; each = omega arith; small = told.1 } in (
      (gv, gt, few, gr, record { limits = gk; some = omega arith; most = omega arith; each = All-push (GoodTerm (length vs)) ts x gts good }),
      (λ i. s i ++ field a_term (count_of xs b (omega arith) i))
          ∙ append_assoc (head vs t) (rows_written rs ++ row_written (record { limits = k; terms = ts })) (f x)
          ∙ ap (λ (ys : List ℕ). head vs t ++ ys) (append_assoc (rows_written rs) (row_written (record { limits = k; terms = ts })) (f x)
          ∙ ap (λ (ys : List ℕ). rows_written rs ++ ys) (flat_map_more f kc ts x)),
    ))
    (λ g. tt))

no_content : (xs : List ℕ) → length xs ≡ 0 → xs ≡ []
no_content [] h = refl
no_content (x ∷ xs) h = absurd (omega arith)

end_sound : (vs : List GivenVariable) (t : ℕ) (rs : List GivenRow) (k : Limits) (ts : List Term) (xs : List ℕ) → Good (terms vs t rs k ts) → length xs ≡ 0 → StepSound (terms vs t rs k ts) (field an_end xs) (ends (record { variables = vs; tolerance = t; rows = closed rs k ts }))
end_sound vs t rs k ts xs g l =
    let r : GivenRow = record { limits = k; terms = ts } in
    let more = length-append rs (r ∷ []) in
    let few = g.2 in (
      record { variables = g.0; tolerance = g.1; some = omega arith; most = omega arith; each = All-push (GoodRow (length vs)) rs r g.3 g.4 },
      ap (λ (ys : List ℕ). so_far (terms vs t rs k ts) ++ field an_end ys) (no_content xs l)
          ∙ append_assoc (head vs t) (rows_written rs ++ row_written r) (field an_end [])
          ∙ ap (λ (ys : List ℕ). head vs t ++ (ys ++ field an_end [])) (flat_map_more row_written [] rs r)
          ∙ append_assoc (variables_written vs) (field a_tolerance (four t)) (rows_written (closed rs k ts) ++ field an_end []),
    )

step_sound : (d : Draft) (p : ℕ) (k : FieldKind) (xs : List ℕ) → Good d → AllByRecursion Byte xs → right_length (variable_count d) k (length xs) ≡ true → StepSound d (field k xs) (step d p k xs)
step_sound start p a_variable xs g b l = let q = and_parts _ _ l in variable_sound start [] p xs refl tt tt b (leb-true 13 (length xs) q.0) (leb-true (length xs) 20 q.1)
step_sound start p a_tolerance xs g b l = tt
step_sound start p a_row xs g b l = tt
step_sound start p a_term xs g b l = tt
step_sound start p an_end xs g b l = tt
step_sound (variables vs) p a_variable xs g b l = let q = and_parts _ _ l in variable_sound (variables vs) vs p xs refl g.each g.different b (leb-true 13 (length xs) q.0) (leb-true (length xs) 20 q.1)
step_sound (variables vs) p a_tolerance xs g b l = tolerance_sound vs p xs g b (eqb-true (length xs) 4 l)
step_sound (variables vs) p a_row xs g b l = tt
step_sound (variables vs) p a_term xs g b l = tt
step_sound (variables vs) p an_end xs g b l = tt
step_sound (tolerance vs t) p a_variable xs g b l = tt
step_sound (tolerance vs t) p a_tolerance xs g b l = tt
step_sound (tolerance vs t) p a_row xs g b l = row_sound (tolerance vs t) vs t [] p xs (sym (append-nil (head vs t))) g.0 g.1 tt b (five_or_nine (length xs) (or_cases _ _ l))
step_sound (tolerance vs t) p a_term xs g b l = tt
step_sound (tolerance vs t) p an_end xs g b l = tt
step_sound (row vs t rs k) p a_variable xs g b l = tt
step_sound (row vs t rs k) p a_tolerance xs g b l = tt
step_sound (row vs t rs k) p a_row xs g b l = tt
step_sound (row vs t rs k) p a_term xs g b l = term_sound (row vs t rs k) vs t rs k [] p xs (ap (λ (ys : List ℕ). head vs t ++ (rows_written rs ++ ys)) (sym (append-nil (field a_row (limits_content k))))) g.0 g.1 g.2 g.3 g.4 tt b (eqb-true (length xs) (4 + length vs) l)
step_sound (row vs t rs k) p an_end xs g b l = tt
step_sound (terms vs t rs k ts) p a_variable xs g b l = tt
step_sound (terms vs t rs k ts) p a_tolerance xs g b l = tt
step_sound (terms vs t rs k ts) p a_row xs g b l = row_sound (terms vs t rs k ts) vs t (closed rs k ts) p xs (ap (λ (ys : List ℕ). head vs t ++ ys) (flat_map_more row_written [] rs (record { limits = k; terms = ts }))) g.0 g.1 (All-push (GoodRow (length vs)) rs (record { limits = k; terms = ts }) g.3 g.4) b (five_or_nine (length xs) (or_cases _ _ l))
step_sound (terms vs t rs k ts) p a_term xs g b l = term_sound (terms vs t rs k ts) vs t rs k ts p xs refl g.0 g.1 g.2 g.3 g.4.limits g.4.each b (eqb-true (length xs) (4 + length vs) l)
step_sound (terms vs t rs k ts) p an_end xs g b l = end_sound vs t rs k ts xs g (eqb-true (length xs) 0 l)

pub fault_ok : {X : Type 0} (e : SheetFault) (c : Content) → Err e ≡ Ok c → X
fault_ok e c h = let z : ◌≡◌ {A = ℕ} 0 1 = cc in absurd (omega arith)

all_split : (xs ys : List ℕ) → AllByRecursion Byte (xs ++ ys) → AllByRecursion Byte xs × AllByRecursion Byte ys
all_split [] ys h = (tt, h)
all_split (x ∷ xs) ys h = let q = all_split xs ys h.1 in ((h.0, q.0), q.1)

ended_sound : (c e : Content) (p : ℕ) (rest : List ℕ) → ended e p rest ≡ Ok c → (e ≡ c) × (rest ≡ [])
ended_sound c e p [] h = let i : ◌≡◌ {A = Result Content SheetFault} (Ok e) (Ok c) = h in (cc, refl)
ended_sound c e p (x ∷ xs) h = fault_ok _ c h

abbrev Sound : Draft → List ℕ → Content → Type 0
Sound d rest c = WellFormed c × (so_far d ++ rest ≡ written c)

after_step_sound : (more : ℕ → List ℕ → Draft → Result Content SheetFault) → ((p : ℕ) (rest : List ℕ) (d : Draft) (c : Content) → Good d → AllByRecursion Byte rest → more p rest d ≡ Ok c → Sound d rest c)
    → (d : Draft) (f rest : List ℕ) (c : Content) (p : ℕ) (s : Step) → AllByRecursion Byte rest → StepSound d f s → after_step more p rest s ≡ Ok c → Sound d (f ++ rest) c
after_step_sound more ih d f rest c p (goes_on e) b g h =
    let q = ih p rest e c g.0 b h in
    (q.0, sym (append_assoc (so_far d) f rest) ∙ ap (λ (ys : List ℕ). ys ++ rest) g.1 ∙ q.1)
after_step_sound more ih d f rest c p (ends e) b g h =
    let q = ended_sound c e p rest h in
    (subst WellFormed q.0 g.0, ap (λ (ys : List ℕ). so_far d ++ (f ++ ys)) q.1 ∙ ap (λ (ys : List ℕ). so_far d ++ ys) (append-nil f) ∙ g.1 ∙ ap written q.0)
after_step_sound more ih d f rest c p (stops e) b g h = fault_ok e c h

after_field_sound : (more : ℕ → List ℕ → Draft → Result Content SheetFault) → ((p : ℕ) (rest : List ℕ) (d : Draft) (c : Content) → Good d → AllByRecursion Byte rest → more p rest d ≡ Ok c → Sound d rest c)
    → (p : ℕ) (rest : List ℕ) (d : Draft) (c : Content) → Good d → AllByRecursion Byte rest → (r : Result Cut FieldFault) → read_field (variable_count d) p rest ≡ r → after_field more p d r ≡ Ok c → Sound d rest c
after_field_sound more ih p rest d c g b (Err e) i h = fault_ok _ c h
after_field_sound more ih p rest d c g b (Ok x) i h =
    let q = front (variable_count d) p rest x b i in
    let bs : AllByRecursion Byte (field x.kind x.content ++ x.rest) = subst (AllByRecursion Byte) q.is b in
    let parts = all_split x.content x.rest bs.1.1.1 in
    let s = after_step_sound more ih d (field x.kind x.content) x.rest c _ (step d p x.kind x.content) parts.1 (step_sound d p x.kind x.content g parts.0 q.right) h in
    (s.0, ap (λ (ys : List ℕ). so_far d ++ ys) q.is ∙ s.1)

pub reading_sound : (k p : ℕ) (rest : List ℕ) (d : Draft) (c : Content) → Good d → AllByRecursion Byte rest → reading k p rest d ≡ Ok c → Sound d rest c
unfolding reading
reading_sound zero p rest d c g b h = fault_ok _ c h
reading_sound (suc k) p rest d c g b h = after_field_sound (reading k) (reading_sound k) p rest d c g b (read_field (variable_count d) p rest) refl h
