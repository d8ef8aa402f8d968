-- The field reader gives what stands there, and reads what was written; and the sheet reader goes on field by field.
use Rattle.std.proofs.Common.{◌≡◌, ℕ, zero, suc, ◌+◌, ◌*◌, ◌/◌, ◌%◌, ◌<◌, ◌≤◌, Bool, true, false, cond, eqb, leb, ◌⊎◌, List, [], ◌∷◌, ◌++◌, length, take, drop, Some, None, Ok, Err, Option, Result, sym, refl, ap, ◌∙◌, inl, inr, arith, length-append, length-drop}
use Rattle.std.specs.List.{AllByRecursion}
use Rattle.std.proofs.lemmas.List.{length-take-le, take-append-drop, take_at, drop_at}
use Rattle.std.proofs.lemmas.Bool.{leb-true, le-leb, eqb-true}
use Rattle.format.specs.declared.fault.FieldFault.{FieldFault}
use Rattle.format.specs.Written.{FieldKind, a_variable, a_tolerance, a_row, a_term, an_end, tag, field}
use Rattle.format.specs.Fields.{Cut, kind_of, right_length, kinded, cut, read_field}
use Rattle.format.specs.Reading.{Draft, Step, goes_on, ends, stops, variable_count, step, Reader, after_step, after_field, reading, whole}
use Rattle.format.specs.Theorem.{Byte}

pub cond_ok : {A E : Type 0} (b : Bool) (x : Result A E) (e : E) (y : A) → cond b x (Err e) ≡ Ok y → (b ≡ true) × (x ≡ Ok y)
cond_ok true x e y h = (refl, h)
cond_ok false x e y h = let z : ◌≡◌ {A = ℕ} 0 1 = cc in absurd (omega arith)

pub cond_some : {A : Type 0} (b : Bool) (x : A) (o : Option A) (y : A) → cond b (Some x) o ≡ Some y → ((b ≡ true) × (x ≡ y)) ⊎ (o ≡ Some y)
cond_some true x o y h = inl (refl, cc)
cond_some false x o y h = inr h

-- a tag's kind has that tag
chosen : (t m : ℕ) (j k : FieldKind) → m ≡ tag j → (eqb t m ≡ true) × (j ≡ k) → t ≡ tag k
chosen t m j k e h = eqb-true t m h.0 ∙ e ∙ ap tag h.1

kind_tag_9 : (t : ℕ) (k : FieldKind) → ((eqb t 9 ≡ true) × (an_end ≡ k)) ⊎ (None ≡ Some k) → t ≡ tag k
kind_tag_9 t k (inl h) = chosen t 9 an_end k refl h
kind_tag_9 t k (inr h) = let z : ◌≡◌ {A = ℕ} 0 1 = cc in absurd (omega arith)

kind_tag_3 : (t : ℕ) (k : FieldKind) → ((eqb t 3 ≡ true) × (a_term ≡ k)) ⊎ (cond (eqb t 9) (Some an_end) None ≡ Some k) → t ≡ tag k
kind_tag_3 t k (inl h) = chosen t 3 a_term k refl h
kind_tag_3 t k (inr h) = kind_tag_9 t k (cond_some (eqb t 9) an_end None k h)

kind_tag_2 : (t : ℕ) (k : FieldKind) → ((eqb t 2 ≡ true) × (a_row ≡ k)) ⊎ (cond (eqb t 3) (Some a_term) (cond (eqb t 9) (Some an_end) None) ≡ Some k) → t ≡ tag k
kind_tag_2 t k (inl h) = chosen t 2 a_row k refl h
kind_tag_2 t k (inr h) = kind_tag_3 t k (cond_some (eqb t 3) a_term _ k h)

kind_tag_4 : (t : ℕ) (k : FieldKind) → ((eqb t 4 ≡ true) × (a_tolerance ≡ k)) ⊎ (cond (eqb t 2) (Some a_row) (cond (eqb t 3) (Some a_term) (cond (eqb t 9) (Some an_end) None)) ≡ Some k) → t ≡ tag k
kind_tag_4 t k (inl h) = chosen t 4 a_tolerance k refl h
kind_tag_4 t k (inr h) = kind_tag_2 t k (cond_some (eqb t 2) a_row _ k h)

kind_tag_1 : (t : ℕ) (k : FieldKind) → ((eqb t 1 ≡ true) × (a_variable ≡ k)) ⊎ (cond (eqb t 4) (Some a_tolerance) (cond (eqb t 2) (Some a_row) (cond (eqb t 3) (Some a_term) (cond (eqb t 9) (Some an_end) None))) ≡ Some k) → t ≡ tag k
kind_tag_1 t k (inl h) = chosen t 1 a_variable k refl h
kind_tag_1 t k (inr h) = kind_tag_4 t k (cond_some (eqb t 4) a_tolerance _ k h)

pub kind_tag : (t : ℕ) (k : FieldKind) → kind_of t ≡ Some k → t ≡ tag k
kind_tag t k e = kind_tag_1 t k (cond_some (eqb t 1) a_variable _ k e)

tag_kind : (k : FieldKind) → kind_of (tag k) ≡ Some k
tag_kind a_variable = refl
tag_kind a_tolerance = refl
tag_kind a_row = refl
tag_kind a_term = refl
tag_kind an_end = refl

-- what the field reader tells of a field that it cuts off: l is the number in the length bytes
pub record Parts (n t l : ℕ) (ys : List ℕ) (x : Cut) : Type 0 where
  pub tagged : t ≡ tag x.kind
  pub within : l ≤ length ys
  pub right : right_length n x.kind (length x.content) ≡ true
  pub content : x.content ≡ take l ys
  pub rest : x.rest ≡ drop l ys

kinded_parts : (n p t l : ℕ) (ys : List ℕ) (x : Cut) (o : Option FieldKind) → kind_of t ≡ o → l ≤ length ys → kinded n p (take l ys) (drop l ys) o ≡ Ok x → Parts n t l ys x
kinded_parts n p t l ys x None e w h = let z : ◌≡◌ {A = ℕ} 0 1 = cc in absurd (omega arith)
kinded_parts n p t l ys x (Some k) e w h =
    let q = cond_ok (right_length n k (length (take l ys))) _ _ x h in
    let y : Cut = record { kind = k; content = take l ys; rest = drop l ys } in
    let i : ◌≡◌ {A = Result Cut FieldFault} (Ok y) (Ok x) = q.1 in
    let s : y ≡ x = cc in
    record { tagged = kind_tag t k e ∙ ap (λ (c : Cut). tag c.kind) s; within = w; right = ap (λ (c : Cut). right_length n c.kind (length c.content)) (sym s) ∙ q.0; content = ap (λ (c : Cut). c.content) (sym s); rest = ap (λ (c : Cut). c.rest) (sym s) }

pub cut_parts : (n p t l : ℕ) (ys : List ℕ) (x : Cut) → cut n p t l ys ≡ Ok x → Parts n t l ys x
cut_parts n p t l ys x h = let q = cond_ok (leb l (length ys)) _ _ x h in kinded_parts n p t l ys x (kind_of t) refl (leb-true l (length ys) q.0) q.1

-- a field is what stands in front, and right by the table of lengths
pub record Front (n : ℕ) (xs : List ℕ) (x : Cut) : Type 0 where
  pub is : xs ≡ field x.kind x.content ++ x.rest
  pub right : right_length n x.kind (length x.content) ≡ true

short_ok : {X : Type 0} (e : FieldFault) (x : Cut) → Err e ≡ Ok x → X
short_ok e x h = let z : ◌≡◌ {A = ℕ} 0 1 = cc in absurd (omega arith)

pub front : (n p : ℕ) (xs : List ℕ) (x : Cut) → AllByRecursion Byte xs → read_field n p xs ≡ Ok x → Front n xs x
front n p [] x b h = short_ok _ x h
front n p (t ∷ []) x b h = short_ok _ x h
front n p (t ∷ i ∷ []) x b h = short_ok _ x h
front n p (t ∷ i ∷ j ∷ ys) x b h =
    let q = cut_parts n p t (256 * i + j) ys x h in
    let j-byte : j < 256 = b.1.1.0 in
    let m : length x.content ≡ 256 * i + j = ap length q.content ∙ length-take-le (256 * i + j) ys q.within in
    let e : i ≡ length x.content / 256 = omega arith in
    let f : j ≡ length x.content % 256 = omega arith in
    let w : x.content ++ x.rest ≡ take (256 * i + j) ys ++ drop (256 * i + j) ys = (λ k. q.content k ++ q.rest k) in
    let g : ys ≡ x.content ++ x.rest = sym (w ∙ take-append-drop (256 * i + j) ys) in
    record { is = λ k. q.tagged k ∷ e k ∷ f k ∷ g k; right = q.right }

-- what is left is shorter by three bytes at least
pub shorter : (n p : ℕ) (xs : List ℕ) (x : Cut) → read_field n p xs ≡ Ok x → length x.rest + 3 ≤ length xs
shorter n p [] x h = short_ok _ x h
shorter n p (t ∷ []) x h = short_ok _ x h
shorter n p (t ∷ i ∷ []) x h = short_ok _ x h
shorter n p (t ∷ i ∷ j ∷ ys) x h =
    let q = cut_parts n p t (256 * i + j) ys x h in
    omega (arith, ap length q.rest, length-drop (256 * i + j) ys)

-- what was written as a field is read as that
pub again : (n p : ℕ) (k : FieldKind) (xs rest : List ℕ) → right_length n k (length xs) ≡ true → read_field n p (field k xs ++ rest) ≡ Ok (record { kind = k; content = xs; rest = rest })
again n p k xs rest r =
    let l : 256 * (length xs / 256) + length xs % 256 ≡ length xs = omega arith in
    let w : leb (length xs) (length (xs ++ rest)) ≡ true = le-leb (length xs) (length (xs ++ rest)) (omega (arith, length-append xs rest)) in
    rw (l, w, tag_kind k, take_at xs rest (length xs) refl, drop_at xs rest (length xs) refl, r)

-- the sheet reader goes on in the same way wherever what reads on is the same
after_step_same : (f g : Reader) (q : ℕ) (rest : List ℕ) → ((e : Draft) → f q rest e ≡ g q rest e) → (s : Step) → after_step f q rest s ≡ after_step g q rest s
after_step_same f g q rest h (goes_on d) = h d
after_step_same f g q rest h (ends c) = refl
after_step_same f g q rest h (stops e) = refl

after_field_same : (f g : Reader) (p : ℕ) (d : Draft) (r : Result Cut FieldFault) → ((x : Cut) → r ≡ Ok x → (q : ℕ) (e : Draft) → f q x.rest e ≡ g q x.rest e) → after_field f p d r ≡ after_field g p d r
after_field_same f g p d (Err e) h = refl
after_field_same f g p d (Ok x) h = after_step_same f g (p + (3 + length x.content)) x.rest (h x refl (p + (3 + length x.content))) (step d p x.kind x.content)

reading_same : (j k p : ℕ) (rest : List ℕ) (d : Draft) → length rest ≤ j → length rest ≤ k → reading j p rest d ≡ reading k p rest d
unfolding reading
reading_same zero zero p rest d h i = refl
reading_same zero (suc k) p [] d h i = refl
reading_same zero (suc k) p (x ∷ xs) d h i = absurd (omega arith)
reading_same (suc j) zero p [] d h i = refl
reading_same (suc j) zero p (x ∷ xs) d h i = absurd (omega arith)
reading_same (suc j) (suc k) p rest d h i = after_field_same (reading j) (reading k) p d (read_field (variable_count d) p rest) (λ x e q f. let s = shorter (variable_count d) p rest x e in reading_same j k q x.rest f (omega arith) (omega arith))

-- the reader, one field at a time
pub whole_is : (p : ℕ) (rest : List ℕ) (d : Draft) → whole p rest d ≡ after_field whole p d (read_field (variable_count d) p rest)
unfolding whole reading
whole_is p [] d = refl
whole_is p (y ∷ ys) d = after_field_same (reading (length ys)) (λ q r f. reading (length r) q r f) p d (read_field (variable_count d) p (y ∷ ys)) (λ x e q f. let s = shorter (variable_count d) p (y ∷ ys) x e in reading_same (length ys) (length x.rest) q x.rest f (omega arith) (omega arith))

-- the lengths add up
pub length_cut : (n p : ℕ) (xs : List ℕ) (x : Cut) → read_field n p xs ≡ Ok x → length xs ≡ 3 + length x.content + length x.rest
length_cut n p [] x h = short_ok _ x h
length_cut n p (t ∷ []) x h = short_ok _ x h
length_cut n p (t ∷ i ∷ []) x h = short_ok _ x h
length_cut n p (t ∷ i ∷ j ∷ ys) x h =
    let q = cut_parts n p t (256 * i + j) ys x h in
    let w = q.within in
    omega (arith, ap length q.content, ap length q.rest, length-take-le (256 * i + j) ys w, length-drop (256 * i + j) ys)

pub cut_right : (n p : ℕ) (xs : List ℕ) (x : Cut) → read_field n p xs ≡ Ok x → right_length n x.kind (length x.content) ≡ true
cut_right n p [] x h = short_ok _ x h
cut_right n p (t ∷ []) x h = short_ok _ x h
cut_right n p (t ∷ i ∷ []) x h = short_ok _ x h
cut_right n p (t ∷ i ∷ j ∷ ys) x h = (cut_parts n p t (256 * i + j) ys x h).right
