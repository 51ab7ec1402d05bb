-- What the walks over some ids list.
use Rattle.std.proofs.Common.{◌≡◌, ℕ, suc, zero, ◌+◌, ◌<◌, ◌≤◌, Bool, true, false, cond, List, [], ◌∷◌, ◌++◌, Option, Some, None, length, get_or, drop, map, refl, sym, ap, ◌∙◌, append_assoc, Bor, option_copied, arith}
use Rattle.std.proofs.lemmas.Grind.{common_steps}
use Rattle.std.specs.Prelude.{if◌then◌else◌, find, filter, is_some, ◌||◌}
use Rattle.std.specs.List.{AllByRecursion, list_any}
use Rattle.base_tables.specs.Tables.{row_at, AreInOrder}
use Rattle.model_rows.proofs.Found.{each_found}
use Rattle.book_store.specs.Walks.{row_as_list, rows_of, passing}

-- what is left at a place that is within
pub drop_next : {A : Type 0} (xs : List A) (i : ℕ) (d : A) → i < length xs → drop i xs ≡ get_or xs i d ∷ drop (i + 1) xs
drop_next [] i d lt = absurd (omega arith)
drop_next (x ∷ xs) zero d lt = refl
drop_next (x ∷ xs) (suc i) d lt = let next : suc i + 1 ≡ suc (i + 1) = omega arith in rw next (drop_next xs i d (omega arith))

pub drop_end : {A : Type 0} (xs : List A) (i : ℕ) → length xs ≤ i → drop i xs ≡ []
drop_end xs i le = grind (arith, common_steps)

pub nothing_behind : {A : Type 0} (xs ys : List A) → ys ≡ [] → xs ++ ys ≡ xs
nothing_behind xs ys is = grind (arith, common_steps, is)

module _ {T : Type 0} (id : T → ℕ) (rows : List T) where
  rows_selected : (test : T → Bool) (some : List T) → AllByRecursion (λ r. row_at id (id r) rows ≡ Some r) some → rows_of id (map id (filter test some)) rows ≡ filter test some
  rows_selected test [] h = refl
  rows_selected test (r ∷ rs) h = by_test (test r) (rows_selected test rs h.1)
    where
      by_test : (b : Bool) → rows_of id (map id (filter test rs)) rows ≡ filter test rs → rows_of id (map id (cond b (r ∷ filter test rs) (filter test rs))) rows ≡ cond b (r ∷ filter test rs) (filter test rs)
      by_test true more = ap (λ o. row_as_list o ++ rows_of id (map id (filter test rs)) rows) h.0 ∙ ap (λ l. r ∷ l) more
      by_test false more = more

  -- the rows of the ids of those that pass are those that pass
  pub rows_found : (test : T → Bool) (ids : List ℕ) → AreInOrder id rows → ids ≡ map id (filter test rows) → rows_of id ids rows ≡ filter test rows
  rows_found test ids order is = ap (λ l. rows_of id l rows) is ∙ rows_selected test rows (each_found id 0 rows order)

  -- the row at a place, and those of the places behind it
  pub rows_next : (ids : List ℕ) (i x : ℕ) → i < length ids → ((d : ℕ) → get_or ids i d ≡ x) → rows_of id (drop i ids) rows ≡ row_as_list (row_at id x rows) ++ rows_of id (drop (i + 1) ids) rows
  rows_next ids i x lt is = ap (λ l. rows_of id l rows) (drop_next ids i x lt) ∙ ap (λ y. row_as_list (row_at id y rows) ++ rows_of id (drop (i + 1) ids) rows) (is x)

  pub rows_end : (ids : List ℕ) (i : ℕ) → length ids ≤ i → rows_of id (drop i ids) rows ≡ []
  rows_end ids i le = ap (λ l. rows_of id l rows) (drop_end ids i le)

-- a list that grows by what is seen of each row
module _ {T U : Type 0} (id : T → ℕ) (rows : List T) (view : List T → List U) (ids : List ℕ) (i : ℕ) (total had : List U) (left : had ++ view (rows_of id (drop i ids) rows) ≡ total) where
  pub one_more : (x : ℕ) (now : List U) → ((xs ys : List T) → view (xs ++ ys) ≡ view xs ++ view ys) → i < length ids → ((d : ℕ) → get_or ids i d ≡ x) → now ≡ had ++ view (row_as_list (row_at id x rows)) → now ++ view (rows_of id (drop (i + 1) ids) rows) ≡ total
  one_more x now splits lt at is =
      let o = row_as_list (row_at id x rows) in
      let rest = rows_of id (drop (i + 1) ids) rows in
      ap (λ l. l ++ view rest) is
      ∙ append_assoc had (view o) (view rest)
      ∙ ap (λ l. had ++ l) (sym (splits o rest))
      ∙ ap (λ l. had ++ view l) (sym (rows_next id rows ids i x lt at))
      ∙ left

  pub no_more : length ids ≤ i → view [] ≡ [] → had ≡ total
  no_more le none = sym (nothing_behind had (view (rows_of id (drop i ids) rows)) (ap view (rows_end id rows ids i le) ∙ none)) ∙ left

module _ {T : Type 0} (test pass : T → Bool) (implies : (r : T) → pass r ≡ true → test r ≡ true) where
  -- whatever passes is found
  pub find_found : (rows : List T) → find pass (filter test rows) ≡ find pass rows
  find_found [] = refl
  find_found (r ∷ rs) = by_tests (test r) (pass r) refl refl (find_found rs)
    where
      by_tests : (t p : Bool) → test r ≡ t → pass r ≡ p → find pass (filter test rs) ≡ find pass rs → find pass (cond t (r ∷ filter test rs) (filter test rs)) ≡ cond p (Some r) (find pass rs)
      by_tests true p is_test is_pass more = ap (λ b. cond b (Some r) (find pass (filter test rs))) is_pass ∙ ap (cond p (Some r)) more
      by_tests false true is_test is_pass more = absurd (cc (sym is_test ∙ implies r is_pass))
      by_tests false false is_test is_pass more = more

  pub filter_found : (rows : List T) → filter pass (filter test rows) ≡ filter pass rows
  filter_found [] = refl
  filter_found (r ∷ rs) = by_tests (test r) (pass r) refl refl (filter_found rs)
    where
      by_tests : (t p : Bool) → test r ≡ t → pass r ≡ p → filter pass (filter test rs) ≡ filter pass rs → filter pass (cond t (r ∷ filter test rs) (filter test rs)) ≡ cond p (r ∷ filter pass rs) (filter pass rs)
      by_tests true p is_test is_pass more = ap (λ b. cond b (r ∷ filter pass (filter test rs)) (filter pass (filter test rs))) is_pass ∙ ap (λ l. cond p (r ∷ l) l) more
      by_tests false true is_test is_pass more = absurd (cc (sym is_test ∙ implies r is_pass))
      by_tests false false is_test is_pass more = more

-- the first of some rows that passes
module _ {T : Type 0} (pass : T → Bool) (more : List T) where
  pub first_passes : (o : Option T) → is_some (passing pass o) ≡ true → find pass (row_as_list o ++ more) ≡ passing pass o
  first_passes None is = absurd (cc is)
  first_passes (Some r) is = by_pass (pass r) is
    where
      by_pass : (b : Bool) → is_some (if b then Some r else None) ≡ true → cond b (Some r) (find pass more) ≡ (if b then Some r else None)
      by_pass true is = refl
      by_pass false is = absurd (cc is)

  pub first_fails : (o : Option T) → is_some (passing pass o) ≡ false → find pass (row_as_list o ++ more) ≡ find pass more
  first_fails None is = refl
  first_fails (Some r) is = by_pass (pass r) is
    where
      by_pass : (b : Bool) → is_some (if b then Some r else None) ≡ false → cond b (Some r) (find pass more) ≡ find pass more
      by_pass true is = absurd (cc is)
      by_pass false is = refl

-- the first row that passes, as a walk over the ids of those that are found comes to it
module _ {T : Type 0} (id : T → ℕ) (rows : List T) (test pass : T → Bool) (ids : List ℕ) (i : ℕ) where
  abbrev IsLeft : ℕ → Type 0
  IsLeft n = find pass (rows_of id (drop n ids) rows) ≡ find pass (rows_of id ids rows)

  pub later_first : (x : ℕ) → IsLeft i → i < length ids → ((d : ℕ) → get_or ids i d ≡ x) → is_some (passing pass (row_at id x rows)) ≡ false → IsLeft (i + 1)
  later_first x left lt at fails =
      sym (first_fails pass (rows_of id (drop (i + 1) ids) rows) (row_at id x rows) fails)
      ∙ ap (find pass) (sym (rows_next id rows ids i x lt at))
      ∙ left

  module _ (order : AreInOrder id rows) (all : ids ≡ map id (filter test rows)) (implies : (r : T) → pass r ≡ true → test r ≡ true) where
    of_all : find pass (rows_of id ids rows) ≡ find pass rows
    of_all = ap (find pass) (rows_found id rows test ids order all) ∙ find_found test pass implies rows

    pub this_first : (x : ℕ) → IsLeft i → i < length ids → ((d : ℕ) → get_or ids i d ≡ x) → is_some (passing pass (row_at id x rows)) ≡ true → passing pass (row_at id x rows) ≡ find pass rows
    this_first x left lt at passes =
        sym (first_passes pass (rows_of id (drop (i + 1) ids) rows) (row_at id x rows) passes)
        ∙ ap (find pass) (sym (rows_next id rows ids i x lt at))
        ∙ left
        ∙ of_all

    pub none_first : IsLeft i → length ids ≤ i → None ≡ find pass rows
    none_first left le = sym (ap (find pass) (rows_end id rows ids i le)) ∙ left ∙ of_all

-- what is seen of two lists
pub filter_splits : {T : Type 0} (pass : T → Bool) (xs ys : List T) → filter pass (xs ++ ys) ≡ filter pass xs ++ filter pass ys
filter_splits pass [] ys = refl
filter_splits pass (x ∷ xs) ys = by_pass (pass x) (filter_splits pass xs ys)
  where
    by_pass : (b : Bool) → filter pass (xs ++ ys) ≡ filter pass xs ++ filter pass ys → cond b (x ∷ filter pass (xs ++ ys)) (filter pass (xs ++ ys)) ≡ cond b (x ∷ filter pass xs) (filter pass xs) ++ filter pass ys
    by_pass true more = ap (λ l. x ∷ l) more
    by_pass false more = more

map_splits : {T U : Type 0} (f : T → U) (xs ys : List T) → map f (xs ++ ys) ≡ map f xs ++ map f ys
map_splits f [] ys = refl
map_splits f (x ∷ xs) ys = ap (λ l. f x ∷ l) (map_splits f xs ys)

pub ids_split : {T : Type 0} (id : T → ℕ) (pass : T → Bool) (xs ys : List T) → map id (filter pass (xs ++ ys)) ≡ map id (filter pass xs) ++ map id (filter pass ys)
ids_split id pass xs ys = ap (map id) (filter_splits pass xs ys) ∙ map_splits id (filter pass xs) (filter pass ys)

pub any_find : {T : Type 0} (pass : T → Bool) (rows : List T) → list_any pass rows ≡ is_some (find pass rows)
any_find pass [] = refl
any_find pass (r ∷ rs) = by_pass (pass r) (any_find pass rs)
  where
    by_pass : (b : Bool) → list_any pass rs ≡ is_some (find pass rs) → (b || list_any pass rs) ≡ is_some (cond b (Some r) (find pass rs))
    by_pass true more = refl
    by_pass false more = more

pub some_copied : {T : Type 0} (o : Option (Bor T)) → is_some o ≡ is_some (option_copied o)
some_copied None = refl
some_copied (Some row) = refl
