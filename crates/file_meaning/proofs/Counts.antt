-- Rows in order, by what is found under each id.
use Rattle.std.proofs.Common.{◌≡◌, ℕ, ◌+◌, ◌≤◌, ◌==◌, Bool, true, false, cond, not, ◌||◌, List, [], ◌∷◌, map, filter, Option, Some, None, refl, sym, ap, subst, ◌∙◌, arith}
use Rattle.std.specs.List.{list_any}
use Rattle.std.proofs.lemmas.Bool.Decides.{nat_tests}
use Rattle.base_tables.specs.Tables.{row_at, with_row, InOrderFrom, AreInOrder}
use Rattle.base_tables.proofs.Edits.{row_at-with_row, row_at_above}
use Rattle.file_meaning.specs.Counts.{with_all}
use Rattle.base_tables.proofs.Places.{filter_in_order}
use Rattle.file_meaning.proofs.Order.{put_stays}
use Rattle.file_meaning.proofs.Told.{order_of_parts}

-- the part of the row that was found
abbrev pub part_of : {T U : Type 0} → (T → U) → Option T → Option U
part_of part None = None
part_of part (Some row) = Some (part row)

-- among parts of rows the part of the row is found
pub row_of_parts : {T U : Type 0} (key : T → ℕ) (part : T → U) (of : U → ℕ) → ((r : T) → of (part r) ≡ key r) → (id : ℕ) (rows : List T) → row_at of id (map part rows) ≡ part_of part (row_at key id rows)
row_of_parts key part of is id [] = refl
row_of_parts key part of is id (r ∷ rows) =
    let more = row_of_parts key part of is id rows in
    ap (λ n. cond (n == id) (Some (part r)) (row_at of id (map part rows))) (is r)
    ∙ elim (key r == id) as (λ b. cond b (Some (part r)) (row_at of id (map part rows)) ≡ part_of part (cond b (Some r) (row_at key id rows))) [
      | true ↦ refl
      | false ↦ more
    ]

-- the row that was found, or else this one
abbrev pub found_or : {T : Type 0} → Option T → Option T → Option T
found_or None other = other
found_or (Some row) other = Some row

module _ {T : Type 0} (key : T → ℕ) where
  pub with_all_in_order : (more rows : List T) → AreInOrder key rows → AreInOrder key (with_all key more rows)
  with_all_in_order [] rows h = h
  with_all_in_order (r ∷ more) rows h = with_all_in_order more (with_row key r rows) (put_stays key r rows h)

  -- of rows in order, what is found after they were put is theirs, or else what was found before
  pub row_at-with_all : (n id : ℕ) (more rows : List T) → InOrderFrom key n more → row_at key id (with_all key more rows) ≡ found_or (row_at key id more) (row_at key id rows)
  row_at-with_all n id [] rows h = refl
  row_at-with_all n id (r ∷ more) rows h =
      row_at-with_all (key r + 1) id more (with_row key r rows) h.1
      ∙ ap (found_or (row_at key id more)) (row_at-with_row key id r rows)
      ∙ elim (key r == id) as (λ b. (key r == id) ≡ b → found_or (row_at key id more) (cond b (Some r) (row_at key id rows)) ≡ found_or (cond b (Some r) (row_at key id more)) (row_at key id rows)) [
        | true ↦ λ e. ap (λ o. found_or o (Some r)) (row_at_above key (key r + 1) id more (grind (arith, nat_tests)) h.1)
        | false ↦ λ e. refl
      ] refl

  -- lists in order in which the same is found under each id are equal
  pub same_found : (n m : ℕ) (xs ys : List T) → InOrderFrom key n xs → InOrderFrom key m ys → ((id : ℕ) → row_at key id xs ≡ row_at key id ys) → xs ≡ ys
  same_found n m [] [] h k same = refl
  same_found n m [] (y ∷ ys) h k same = absurd (let e : None ≡ Some y = same (key y) ∙ self y ys in cc)
    where
      self : (y : T) (ys : List T) → row_at key (key y) (y ∷ ys) ≡ Some y
      self y ys = let e : (key y == key y) ≡ true = grind (arith, nat_tests) in rw e
  same_found n m (x ∷ xs) [] h k same = absurd (let e : Some x ≡ None = sym (self x xs) ∙ same (key x) in cc)
    where
      self : (x : T) (xs : List T) → row_at key (key x) (x ∷ xs) ≡ Some x
      self x xs = let e : (key x == key x) ≡ true = grind (arith, nat_tests) in rw e
  same_found n m (x ∷ xs) (y ∷ ys) h k same = firsts x y xs ys h k same (λ rest. same_found (key x + 1) (key y + 1) xs ys h.1 k.1 rest)
    where
      self : (x : T) (xs : List T) → row_at key (key x) (x ∷ xs) ≡ Some x
      self x xs = let e : (key x == key x) ≡ true = grind (arith, nat_tests) in rw e

      low : (x y : T) (ys : List T) (m : ℕ) → InOrderFrom key m (y ∷ ys) → row_at key (key x) (y ∷ ys) ≡ Some x → key y ≤ key x
      low x y ys m k found = elim (Rattle.std.proofs.Common.leb (key y) (key x)) as (λ b. Rattle.std.proofs.Common.leb (key y) (key x) ≡ b → key y ≤ key x) [
        | true ↦ λ e. grind (arith, nat_tests)
        | false ↦ λ e. absurd (let none = row_at_above key (key y) (key x) (y ∷ ys) (grind (arith, nat_tests)) (omega arith, k.1) in let both : Some x ≡ None = sym found ∙ none in cc)
      ] refl

      firsts : (x y : T) (xs ys : List T) → InOrderFrom key n (x ∷ xs) → InOrderFrom key m (y ∷ ys) → ((id : ℕ) → row_at key id (x ∷ xs) ≡ row_at key id (y ∷ ys))
          → (((id : ℕ) → row_at key id xs ≡ row_at key id ys) → xs ≡ ys) → x ∷ xs ≡ y ∷ ys
      firsts x y xs ys h k same rest =
          let found : row_at key (key x) (y ∷ ys) ≡ Some x = sym (same (key x)) ∙ self x xs in
          let back : row_at key (key y) (x ∷ xs) ≡ Some y = same (key y) ∙ self y ys in
          let is : key x ≡ key y = omega (arith, low x y ys m k found, low y x xs n h back) in
          let here : Some x ≡ Some y = sym found ∙ ap (λ id. row_at key id (y ∷ ys)) is ∙ self y ys in
          let first : x ≡ y = cc in
          let after : (id : ℕ) → row_at key id xs ≡ row_at key id ys = λ id.
          elim (key x == id) as (λ b. (key x == id) ≡ b → row_at key id xs ≡ row_at key id ys) [
            | true ↦ λ e. row_at_above key (key x + 1) id xs (grind (arith, nat_tests)) h.1 ∙ sym (row_at_above key (key y + 1) id ys (grind (arith, nat_tests)) k.1)
            | false ↦ λ e.
                let other : (key y == id) ≡ false = grind (arith, nat_tests) in
                sym (ap (λ b. cond b (Some x) (row_at key id xs)) e) ∙ same id ∙ ap (λ b. cond b (Some y) (row_at key id ys)) other
          ] refl in
          ap (λ r. r ∷ xs) first ∙ ap (λ l. y ∷ l) (rest after)

  pub found_itself : (row : T) (rows : List T) → row_at key (key row) (row ∷ rows) ≡ Some row
  found_itself row rows = let e : (key row == key row) ≡ true = grind (arith, nat_tests) in rw e

  -- what is found, if it passes
  abbrev pub if_passes : (T → Bool) → Option T → Option T
  if_passes p None = None
  if_passes p (Some row) = cond (p row) (Some row) None

  pub row_at-filter : (p : T → Bool) (n id : ℕ) (rows : List T) → InOrderFrom key n rows → row_at key id (filter p rows) ≡ if_passes p (row_at key id rows)
  row_at-filter p n id [] h = refl
  row_at-filter p n id (r ∷ rows) h =
      let more = row_at-filter p (key r + 1) id rows h.1 in
      elim (key r == id) as (λ b. (key r == id) ≡ b → row_at key id (cond (p r) (r ∷ filter p rows) (filter p rows)) ≡ if_passes p (cond b (Some r) (row_at key id rows))) [
        | true ↦ λ e.
            let none : row_at key id rows ≡ None = row_at_above key (key r + 1) id rows (grind (arith, nat_tests)) h.1 in
            elim (p r) as (λ b. row_at key id (cond b (r ∷ filter p rows) (filter p rows)) ≡ cond b (Some r) None) [
              | true ↦ ap (λ b. cond b (Some r) (row_at key id (filter p rows))) e
              | false ↦ more ∙ ap (if_passes p) none
            ]
        | false ↦ λ e. elim (p r) as (λ b. row_at key id (cond b (r ∷ filter p rows) (filter p rows)) ≡ if_passes p (row_at key id rows)) [
          | true ↦ ap (λ b. cond b (Some r) (row_at key id (filter p rows))) e ∙ more
          | false ↦ more
        ]
      ] refl

-- counts, of which a test tells whether two are the same
module _ {T : Type 0} (key : T → ℕ) (same : T → T → Bool) (tells : (a b : T) → same a b ≡ true → a ≡ b) where
  -- a count that is among these is found under its id
  found_among : (a : T) (n : ℕ) (rows : List T) → InOrderFrom key n rows → list_any (same a) rows ≡ true → row_at key (key a) rows ≡ Some a
  found_among a n [] h any = absurd cc
  found_among a n (r ∷ rows) h any =
      elim (same a r) as (λ b. same a r ≡ b → (b || list_any (same a) rows) ≡ true → row_at key (key a) (r ∷ rows) ≡ Some a) [
        | true ↦ λ e _. let is : a ≡ r = tells a r e in subst (λ x. row_at key (key a) (x ∷ rows) ≡ Some a) is (found_itself key a rows)
        | false ↦ λ e more.
            let rest : row_at key (key a) rows ≡ Some a = found_among a (key r + 1) rows h.1 more in
            elim (key r == key a) as (λ b. (key r == key a) ≡ b → cond b (Some r) (row_at key (key a) rows) ≡ Some a) [
              | true ↦ λ f. absurd (let none = row_at_above key (key r + 1) (key a) rows (grind (arith, nat_tests)) h.1 in let both : Some a ≡ None = sym rest ∙ none in cc)
              | false ↦ λ f. rest
            ] refl
      ] refl any

  -- those that are new, or differ from what stood
  abbrev pub changed_counts : List T → List T → List T
  changed_counts before after = filter (λ c. not (list_any (same c) before)) after

  -- where the rows, of which each has a part of a count, have none that is gone, and those that don't change have the part of what stood before, the parts
  -- of the changed ones make them those after
  pub counts_written : {U : Type 0} (of : U → ℕ) (part : T → U) → ((t : T) → of (part t) ≡ key t) → (before after : List T) (rows : List U) → AreInOrder key before → AreInOrder key after → AreInOrder of rows
      → ((id : ℕ) → row_at key id after ≡ None → row_at of id rows ≡ None)
      → ((id : ℕ) (a : T) → row_at key id after ≡ Some a → row_at key id (changed_counts before after) ≡ None → row_at key id before ≡ Some a → row_at of id rows ≡ Some (part a))
      → with_all of (map part (changed_counts before after)) rows ≡ map part after
  counts_written {U} of part is before after rows h k l gone still =
      same_found of 0 0 _ (map part after) (with_all_in_order of (map part (changed_counts before after)) rows l) (order_of_parts key part of is 0 after k) (λ id.
      row_at-with_all of 0 id (map part (changed_counts before after)) rows (order_of_parts key part of is 0 (changed_counts before after) (filter_in_order key _ 0 after k))
      ∙ ap (λ o. found_or o (row_at of id rows)) (row_of_parts key part of is id (changed_counts before after))
      ∙ here id (row_at key id after) refl
      ∙ sym (row_of_parts key part of is id after))
    where
      listed : (id : ℕ) → row_at key id (changed_counts before after) ≡ if_passes key (λ c. not (list_any (same c) before)) (row_at key id after)
      listed id = row_at-filter key (λ c. not (list_any (same c) before)) 0 id after k

      has_id : (id n : ℕ) (a : T) (rows : List T) → row_at key id rows ≡ Some a → key a ≡ id
      has_id id n a [] e = absurd cc
      has_id id n a (r ∷ rows) e = elim (key r == id) as (λ b. (key r == id) ≡ b → cond b (Some r) (row_at key id rows) ≡ Some a → key a ≡ id) [
        | true ↦ λ f g. let is : r ≡ a = cc in ap key (sym is) ∙ grind (arith, nat_tests)
        | false ↦ λ f g. has_id id n a rows g
      ] refl e

      here : (id : ℕ) (o : Option T) → row_at key id after ≡ o → found_or (part_of part (row_at key id (changed_counts before after))) (row_at of id rows) ≡ part_of part (row_at key id after)
      here id None e =
          let none : row_at key id (changed_counts before after) ≡ None = listed id ∙ ap (if_passes key (λ c. not (list_any (same c) before))) e in
          ap (λ o. found_or (part_of part o) (row_at of id rows)) none ∙ gone id e ∙ sym (ap (part_of part) e)
      here id (Some a) e = elim (list_any (same a) before) as (λ b. list_any (same a) before ≡ b → found_or (part_of part (row_at key id (changed_counts before after))) (row_at of id rows) ≡ part_of part (row_at key id after)) [
        | true ↦ λ f.
            let none : row_at key id (changed_counts before after) ≡ None = listed id ∙ ap (if_passes key (λ c. not (list_any (same c) before))) e ∙ ap (λ b. cond (not b) (Some a) None) f in
            let stood : row_at key id before ≡ Some a = subst (λ n. row_at key n before ≡ Some a) (has_id id 0 a after e) (found_among a 0 before h f) in
            ap (λ o. found_or (part_of part o) (row_at of id rows)) none ∙ still id a e none stood ∙ sym (ap (part_of part) e)
        | false ↦ λ f.
            let some : row_at key id (changed_counts before after) ≡ Some a = listed id ∙ ap (if_passes key (λ c. not (list_any (same c) before))) e ∙ ap (λ b. cond (not b) (Some a) None) f in
            ap (λ o. found_or (part_of part o) (row_at of id rows)) some ∙ sym (ap (part_of part) e)
      ] refl
