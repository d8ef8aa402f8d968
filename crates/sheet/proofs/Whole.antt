-- What a call of read does, by what was gathered.
use Rattle.std.proofs.Common.{◌≡◌, ℕ, ◌<◌, ◌≤◌, true, false, leb, ◌⊎◌, List, map, length, get_or, Ok, Err, Result, sym, refl, ap, ◌∙◌, subst, inl, inr, arith, w8, Fits}
use Rattle.std.proofs.lemmas.Bool.{lt-ltb, le-ltb, le-leb, lt-leb, and_from, and_left, and_right}
use Rattle.format.specs.declared.fault.SheetFault.{SheetFault}
use Rattle.format.specs.declared.fault.SheetFault.TheVariants.{TooLong, NoRoom}
use Rattle.sheet.specs.declared.gather.Gathered.{Gathered}
use Rattle.sheet.specs.declared.sheet.Sheet.{Sheet}
use Rattle.format.specs.Content.{Content, term_total}
use Rattle.format.specs.Reading.{read_content, roomy, read_sheet}
use Rattle.sheet.specs.Held.{variable_is, term_is}
use Rattle.sheet.specs.Gathering.{HoldsAll, row_is}
use Rattle.sheet.specs.Walk.{ContentSays}
use Rattle.list.specs.Lists.{items, room, replaced}
use Rattle.sheet.specs.declared.heading.Heading.{Heading}
use Rattle.sheet.proofs.Filled.{rows_held, terms_held}
use Rattle.std.specs.List.{AllByRecursion}
use Rattle.std.proofs.ByRecursion.{All-from_get_or}
use Rattle.format.specs.Theorem.{Byte}
use Rattle.sheet.specs.Sheets.{SheetSays, Means}
use Rattle.format.proofs.Sound.{fault_ok}
use Rattle.format.proofs.Exact.{exact}

-- the parts of what reading the content answers
err_is : (e : SheetFault) (r : Result Content SheetFault) → ContentSays (Err e) r → r ≡ Err e
err_is e (Ok c) h = absurd h
err_is e (Err f) h = ap Err (sym h)

record Found (g : Gathered) (r : Result Content SheetFault) : Type 0 where
  pub c : Content
  pub is : r ≡ Ok c
  pub all : HoldsAll g c

found : (g : Gathered) (r : Result Content SheetFault) → ContentSays (Ok g) r → Found g r
found g (Ok c) h = record { c = c; is = refl; all = h }
found g (Err f) h = absurd h

module _ (s : Sheet) (xs : List ℕ) (r t : ℕ) where
  pub says_long : 4096 < length xs → SheetSays s s (read_sheet xs r t) (Err TooLong)
  unfolding read_sheet
  says_long h = let e : read_sheet xs r t ≡ Err TooLong = rw (lt-ltb 4096 (length xs) h) in subst (λ x. SheetSays s s x (Err TooLong)) (sym e) (refl, refl)

  pub says_refused : (e : SheetFault) → length xs ≤ 4096 → ContentSays (Err e) (read_content xs) → SheetSays s s (read_sheet xs r t) (Err e)
  unfolding read_sheet
  says_refused e h i = let q : read_sheet xs r t ≡ Err e = rw (le-ltb 4096 (length xs) h, err_is e (read_content xs) i) in subst (λ x. SheetSays s s x (Err e)) (sym q) (refl, refl)

  not_roomy : (c : Content) → (r < length c.rows) ⊎ (t < term_total c.rows) → roomy r t c ≡ false
  not_roomy c (inl h) = and_left _ _ (lt-leb (length c.rows) r h)
  not_roomy c (inr h) = and_right _ _ (lt-leb (term_total c.rows) t h)

  pub says_no_room : (g : Gathered) → length xs ≤ 4096 → ContentSays (Ok g) (read_content xs) → (r < length g.rows.items) ⊎ (t < length g.terms.items) → SheetSays s s (read_sheet xs r t) (Err (NoRoom (length xs)))
  unfolding read_sheet
  says_no_room g h i o =
      let f = found g (read_content xs) i in
      let held = f.all.held in
      let q : read_sheet xs r t ≡ Err (NoRoom (length xs)) = rw (le-ltb 4096 (length xs) h, f.is, not_roomy f.c (go f o)) in
      subst (λ x. SheetSays s s x (Err (NoRoom (length xs)))) (sym q) (refl, refl)
    where
      go : (f : Found g (read_content xs)) → (r < length g.rows.items) ⊎ (t < length g.terms.items) → (r < length f.c.rows) ⊎ (t < term_total f.c.rows)
      go f (inl h) = inl (let e = rows_held g f.c.variables f.c.rows f.all.held in omega arith)
      go f (inr h) = inr (let e = terms_held g f.c.variables f.c.rows f.all.held in omega arith)

  read_is : (c : Content) → length xs ≤ 4096 → read_content xs ≡ Ok c → roomy r t c ≡ true → read_sheet xs r t ≡ Ok c
  unfolding read_sheet
  read_is c h e b = rw (le-ltb 4096 (length xs) h, e, b)

  pub says_read : (u : Sheet) (g : Gathered) → length xs ≤ 4096 → ContentSays (Ok g) (read_content xs) → length g.rows.items ≤ r → length g.terms.items ≤ t
      → u.heading ≡ g.heading → items u.rows ≡ g.rows.items → items u.terms ≡ g.terms.items
      → room u.rows ≡ room s.rows → room u.terms ≡ room s.terms → SheetSays s u (read_sheet xs r t) (Ok tt)
  says_read u g h i p q heading-is rows_is terms_is row_places term_places =
      let f = found g (read_content xs) i in
      let held = f.all.held in
      let hd = rows_held g f.c.variables f.c.rows held in
      let lv = terms_held g f.c.variables f.c.rows held in
      let big : roomy r t f.c ≡ true = and_from (leb (length f.c.rows) r) (leb (term_total f.c.rows) t) (le-leb _ _ (omega arith)) (le-leb _ _ (omega arith)) in
      let e : read_sheet xs r t ≡ Ok f.c = read_is f.c h f.is big in
      subst (λ x. SheetSays s u x (Ok tt)) (sym e)
      (record {
        variables = ap (λ (w : Heading). map variable_is w.variables.items) heading-is ∙ held.variables;
        tolerance = ap (λ (w : Heading). w.tolerance) heading-is ∙ f.all.tolerance;
        rows = ap (map row_is) rows_is ∙ held.rows;
        terms = ap (map term_is) terms_is ∙ held.terms;
        row_places = row_places;
        term_places = term_places;
      })

pub all_bytes : (xs : List ℕ) → ((i : ℕ) → Fits w8 (get_or xs i 0)) → AllByRecursion Byte xs
all_bytes xs h = All-from_get_or Byte xs 0 (λ i l. (h i).fits)

pub means : (s t : Sheet) (xs : List ℕ) (r : Result (Unit {0}) SheetFault) → AllByRecursion Byte xs → SheetSays s t (read_sheet xs (room s.rows) (room s.terms)) r → Means s t xs r
means s t xs r b h = go (read_sheet xs (room s.rows) (room s.terms)) r refl h
  where
    go : (q : Result Content SheetFault) (a : Result (Unit {0}) SheetFault) → read_sheet xs (room s.rows) (room s.terms) ≡ q → SheetSays s t q a → Means s t xs a
    go (Ok c) (Ok u) e i = (c, ((exact xs b (room s.rows) (room s.terms) c).0 e, i))
    go (Ok c) (Err f) e i = absurd i
    go (Err f) (Ok u) e i = absurd i
    go (Err f) (Err g) e i = (λ c k. fault_ok f c (sym e ∙ (exact xs b (room s.rows) (room s.terms) c).1 k), i.1)

-- what fits takes the place of what was held
pub replaced_whole : {A : Type 0} (places : ℕ) (old xs : List A) → length xs ≤ places → replaced places old xs ≡ xs
replaced_whole places old xs h = rw (le-leb (length xs) places h)
