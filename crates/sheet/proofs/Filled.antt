-- One more variable, row or term is held.
use Rattle.std.proofs.Common.{◌≡◌, ℕ, ◌+◌, ◌-◌, ◌*◌, ◌<◌, ◌≤◌, List, [], ◌∷◌, ◌++◌, map, length, get_or, set, sym, refl, ap, ◌∙◌, arith, length-append}
use Rattle.std.specs.List.{AllByRecursion}
use Rattle.std.proofs.lemmas.List.{map-set, map-append, flat_map_more, append-nil, length-map, set_at, get_or_at, append_assoc}
use Rattle.arrayvec.specs.ArrayVec.{ArrayVec}
use Rattle.std.proofs.Math.ListN.{get_or-map}
use Rattle.std.proofs.ByRecursion.{All-push}
use Rattle.sheet.specs.Fews.{Few}
use Rattle.sheet.specs.declared.shape.Row.{Row}
use Rattle.sheet.specs.declared.shape.Term.{Term}
use Rattle.sheet.specs.declared.variable.Variable.{Variable}
use Rattle.sheet.specs.declared.gather.Gathered.{Gathered}
use Rattle.numbers.specs.Rows.{Term as GivenTerm}
use Rattle.format.specs.Content.{GivenVariable, GivenRow, Limits, term_total}
use Rattle.format.specs.Reading.{closed}
use Rattle.sheet.specs.Held.{variable_is, term_is, padded}
use Rattle.sheet.specs.Gathering.{Held, HeldOpen, Head, row_is, head_of, row_terms, heads_of, terms_of}

pub total_push : (rs : List GivenRow) (r : GivenRow) → term_total (rs ++ r ∷ []) ≡ term_total rs + length r.terms
total_push [] r = omega arith
total_push (q ∷ rs) r = let e = total_push rs r in omega arith

pub total_most : (rs : List GivenRow) → AllByRecursion (λ r. length r.terms ≤ 12) rs → term_total rs ≤ 12 * length rs
total_most [] h = omega arith
total_most (q ∷ rs) h = let e = total_most rs h.1 in let f = h.0 in omega arith

pub all_left : {A : Type 0} (P : A → Type 0) (xs ys : List A) → AllByRecursion P (xs ++ ys) → AllByRecursion P xs
all_left P [] ys h = tt
all_left P (x ∷ xs) ys h = (h.0, all_left P xs ys h.1)

-- how much is held
pub rows_held : (g : Gathered) (vs : List GivenVariable) (rs : List GivenRow) → Held g vs rs → length g.rows.items ≡ length rs
rows_held g vs rs held = sym (length-map g.rows.items row_is) ∙ ap length held.rows ∙ length-map rs head_of

terms_length : (rs : List GivenRow) → length (terms_of rs) ≡ term_total rs
terms_length [] = refl
terms_length (r ∷ rs) = let e = terms_length rs in let m = length-append (row_terms r) (terms_of rs) in let l = length-map r.terms padded in omega arith

pub terms_held : (g : Gathered) (vs : List GivenVariable) (rs : List GivenRow) → Held g vs rs → length g.terms.items ≡ term_total rs
terms_held g vs rs held = sym (length-map g.terms.items term_is) ∙ ap length held.terms ∙ terms_length rs

pub variables_held : (g : Gathered) (vs : List GivenVariable) (rs : List GivenRow) → Held g vs rs → length g.heading.variables.items ≡ length vs
variables_held g vs rs held = sym (length-map g.heading.variables.items variable_is) ∙ ap length held.variables

-- what was gathered, with other variables, rows or terms
abbrev pub with_variables : Gathered → Few Variable → Gathered
with_variables g w = record { state = g.state; heading = record { variables = w; tolerance = g.heading.tolerance }; rows = g.rows; terms = g.terms }

abbrev pub with_rows : Gathered → ArrayVec Row → Gathered
with_rows g w = record { state = g.state; heading = g.heading; rows = w; terms = g.terms }

abbrev pub with_terms : Gathered → ArrayVec Row → ArrayVec Term → Gathered
with_terms g w x = record { state = g.state; heading = g.heading; rows = w; terms = x }

module _ (g : Gathered) (vs : List GivenVariable) (rs : List GivenRow) (held : Held g vs rs) where
  pub held_variable : (w : Few Variable) (v : Variable) → length vs < 8 → w.items ≡ g.heading.variables.items ++ v ∷ [] → Held (with_variables g w) (vs ++ variable_is v ∷ []) rs
  held_variable w v l e = let m = length-append vs (variable_is v ∷ []) in record {
    few = omega arith;
    variables = ap (map variable_is) e ∙ map-append variable_is g.heading.variables.items (v ∷ []) ∙ ap (λ (us : List GivenVariable). us ++ variable_is v ∷ []) held.variables;
    few_rows = held.few_rows;
    rows = held.rows;
    short = held.short;
    terms = held.terms;
  }

  pub held_row : (w : ArrayVec Row) (k : Limits) (x : Row) → length rs < 16 → w.items ≡ g.rows.items ++ x ∷ [] → row_is x ≡ record { limits = k; own = 0 } → Held (with_rows g w) vs (closed rs k [])
  held_row w k x few e x-is =
      let r : GivenRow = record { limits = k; terms = [] } in
      let m = length-append rs (r ∷ []) in
      let f : terms_of rs ++ [] ≡ terms_of (rs ++ r ∷ []) = flat_map_more row_terms [] rs r in
      record {
        few = held.few;
        variables = held.variables;
        few_rows = omega arith;
        rows = ap (map row_is) e ∙ map-append row_is g.rows.items (x ∷ []) ∙ (λ i. held.rows i ++ x-is i ∷ []) ∙ sym (map-append head_of rs (r ∷ []));
        short = All-push (λ q. length q.terms ≤ 12) rs r held.short (omega arith);
        terms = held.terms ∙ sym (append-nil (terms_of rs)) ∙ f;
      }

module _ (g : Gathered) (vs : List GivenVariable) (rs : List GivenRow) (k : Limits) (ts : List GivenTerm) (held : HeldOpen g vs rs k ts) where
  closed_length : length g.rows.items ≡ length rs + 1
  closed_length = rows_held g vs (closed rs k ts) held ∙ length-append rs (record { limits = k; terms = ts } ∷ [])

  pub some_row : 1 ≤ length g.rows.items
  some_row = let e = closed_length in omega arith

  pub few_terms : length ts < 12 → length g.terms.items < 192
  few_terms o =
      let e = terms_held g vs (closed rs k ts) held in
      let m = length-append rs (record { limits = k; terms = ts } ∷ []) in
      let w = held.few_rows in
      let t = total_push rs (record { limits = k; terms = ts }) in
      let s = total_most rs (all_left (λ r. length r.terms ≤ 12) rs (record { limits = k; terms = ts } ∷ []) held.short) in
      omega arith

  -- the last row that is held
  pub last_row : (n : ℕ) (d : Row) → n ≡ length g.rows.items - 1 → row_is (get_or g.rows.items n d) ≡ head_of (record { limits = k; terms = ts })
  last_row n d is =
      let e = closed_length in
      let l = length-map rs head_of in
      sym (get_or-map row_is g.rows.items n d)
      ∙ ap (λ (us : List Head). get_or us n (row_is d)) (held.rows ∙ map-append head_of rs (record { limits = k; terms = ts } ∷ []))
      ∙ get_or_at (heads_of rs) (head_of (record { limits = k; terms = ts })) [] (row_is d) n (omega arith)

  pub held_term : (w : ArrayVec Row) (x : ArrayVec Term) (n : ℕ) (t : GivenTerm) (y : Term) (r : Row) → n ≡ length g.rows.items - 1 → length ts < 12 → x.items ≡ g.terms.items ++ y ∷ [] → term_is y ≡ padded t
      → w.items ≡ set g.rows.items n r → row_is r ≡ head_of (record { limits = k; terms = ts ++ t ∷ [] }) → Held (with_terms g w x) vs (closed rs k (ts ++ t ∷ []))
  held_term w x n t y r n-is few terms-are y-is rows-are r-is =
      let old : GivenRow = record { limits = k; terms = ts } in
      let new : GivenRow = record { limits = k; terms = ts ++ t ∷ [] } in
      let m = length-append rs (old ∷ []) in
      let m' = length-append rs (new ∷ []) in
      let mt = length-append ts (t ∷ []) in
      let l = length-map rs head_of in
      let e = closed_length in
      let f = held.few_rows in
      let few-left = all_left (λ y. length y.terms ≤ 12) rs (old ∷ []) held.short in
      let b : terms_of rs ++ map padded ts ≡ terms_of (closed rs k ts) = flat_map_more row_terms [] rs old in
      let c : terms_of rs ++ map padded (ts ++ t ∷ []) ≡ terms_of (closed rs k (ts ++ t ∷ [])) = flat_map_more row_terms [] rs new in
      let front : set (heads_of rs ++ head_of old ∷ []) n (row_is r) ≡ heads_of rs ++ row_is r ∷ [] = set_at (heads_of rs) (head_of old) [] (row_is r) n (omega arith) in
      record {
        few = held.few;
        variables = held.variables;
        few_rows = omega arith;
        rows = ap (map row_is) rows-are ∙ map-set row_is g.rows.items n r
            ∙ ap (λ (us : List Head). set us n (row_is r)) (held.rows ∙ map-append head_of rs (old ∷ []))
            ∙ front ∙ ap (λ (y : Head). heads_of rs ++ y ∷ []) r-is ∙ sym (map-append head_of rs (new ∷ []));
        short = All-push (λ y. length y.terms ≤ 12) rs new few-left (omega arith);
        terms = ap (map term_is) terms-are ∙ map-append term_is g.terms.items (y ∷ []) ∙ (λ i. (held.terms ∙ sym b) i ++ y-is i ∷ [])
            ∙ append_assoc (terms_of rs) (map padded ts) (padded t ∷ []) ∙ ap (λ (us : List GivenTerm). terms_of rs ++ us) (sym (map-append padded ts (t ∷ []))) ∙ c;
      }
