-- What stands in a table after a row was put into one of its places, or went from it.
use Rattle.std.proofs.Common.{◌≡◌, ℕ, ◌+◌, ◌<◌, ◌≤◌, List, [], ◌∷◌, Option, Some, None, refl, ap, length, arith}
use Rattle.std.specs.Prelude.{filter}
use Rattle.std.proofs.lemmas.Bool.Decides.{nat_tests}
use Rattle.base_tables.specs.Tables.{row_at, with_row, without_row, InOrderFrom}
use Rattle.base_tables.proofs.Places.{order_weaker, without_above}
use Rattle.base_tables.proofs.Edits.{row_at_above}
use Rattle.base_tables.specs.declared.slot.Slot.{Slot}
use Rattle.base_tables.specs.declared.slot.Slot.TheVariants.{Full, Gone}
use Rattle.base_tables.specs.Slots.{slot_key, row_in, rows_in, is_full, count_if}

module _ {T : Type 0} (key : T → ℕ) where
  -- the rows rise as their places do
  pub rows_in_order : (n : ℕ) (slots : List (Slot T)) → InOrderFrom (slot_key key) n slots → InOrderFrom key n (rows_in slots)
  rows_in_order n [] h = tt
  rows_in_order n (Full r ∷ more) h = (h.0, rows_in_order (key r + 1) more h.1)
  rows_in_order n (Gone id ∷ more) h = order_weaker key (id + 1) n (rows_in more) (omega (arith, h.0)) (rows_in_order (id + 1) more h.1)

  pub no_more_rows : (slots : List (Slot T)) → length (rows_in slots) ≤ length slots
  no_more_rows [] = omega arith
  no_more_rows (Full r ∷ more) = omega (arith, no_more_rows more)
  no_more_rows (Gone id ∷ more) = omega (arith, no_more_rows more)

  -- a row of a smaller id stands before all others
  put_below : (n : ℕ) (row : T) (rows : List T) → key row < n → InOrderFrom key n rows → with_row key row rows ≡ row ∷ rows
  put_below n row [] lt h = refl
  put_below n row (r ∷ rs) lt h = grind (arith, nat_tests, h.0)

  -- a row that is put into a place
  pub put_is : (n : ℕ) (row : T) (slots : List (Slot T)) → InOrderFrom (slot_key key) n slots → rows_in (with_row (slot_key key) (Full row) slots) ≡ with_row key row (rows_in slots)
  put_is n row [] h = refl
  put_is n row (Full r ∷ more) h = grind (arith, nat_tests, put_is (key r + 1) row more h.1)
  put_is n row (Gone id ∷ more) h = grind (arith, nat_tests, put_is (id + 1) row more h.1, λ (le : key row < id + 1). put_below (id + 1) row (rows_in more) le (rows_in_order (id + 1) more h.1))

  -- a row that goes from its place
  pub left_is : (n id : ℕ) (slots : List (Slot T)) → InOrderFrom (slot_key key) n slots → rows_in (with_row (slot_key key) (Gone id) slots) ≡ without_row key id (rows_in slots)
  left_is n id [] h = refl
  left_is n id (Full r ∷ more) h = grind (arith, nat_tests, left_is (key r + 1) id more h.1, λ (le : id < key r + 1). without_above key (key r + 1) (rows_in more) id le (rows_in_order (key r + 1) more h.1))
  left_is n id (Gone k ∷ more) h = grind (arith, nat_tests, left_is (k + 1) id more h.1, λ (le : id < k + 1). without_above key (k + 1) (rows_in more) id le (rows_in_order (k + 1) more h.1))

  -- what is found in its place
  abbrev pub row_of : Option (Slot T) → Option T
  row_of None = None
  row_of (Some slot) = row_in slot

  pub found_is : (n id : ℕ) (slots : List (Slot T)) → InOrderFrom (slot_key key) n slots → row_at key id (rows_in slots) ≡ row_of (row_at (slot_key key) id slots)
  found_is n id [] h = refl
  found_is n id (Full r ∷ more) h = grind (arith, nat_tests, found_is (key r + 1) id more h.1)
  found_is n id (Gone k ∷ more) h = grind (arith, nat_tests, found_is (k + 1) id more h.1, λ (same : k ≡ id). row_at_above key (k + 1) id (rows_in more) (omega arith) (rows_in_order (k + 1) more h.1))

  -- places where no row stands
  pub closed_is : (slots : List (Slot T)) → rows_in (filter is_full slots) ≡ rows_in slots
  closed_is [] = refl
  closed_is (Full r ∷ more) = ap (λ l. r ∷ l) (closed_is more)
  closed_is (Gone id ∷ more) = closed_is more

  pub closed_count : (slots : List (Slot T)) → length (filter is_full slots) ≡ length (rows_in slots)
  closed_count [] = refl
  closed_count (Full r ∷ more) = omega (arith, closed_count more)
  closed_count (Gone id ∷ more) = closed_count more

  pub one_at_most : (found : Option T) → count_if found ≤ 1
  one_at_most None = omega arith
  one_at_most (Some row) = omega arith

  -- how many rows there are after one was put, or went
  pub length-put : (n : ℕ) (row : T) (rows : List T) → InOrderFrom key n rows → length (with_row key row rows) + count_if (row_at key (key row) rows) ≡ length rows + 1
  length-put n row [] h = omega arith
  length-put n row (r ∷ rs) h = grind (arith, nat_tests, length-put (key r + 1) row rs h.1, λ (lt : key row < key r). row_at_above key (key r + 1) (key row) rs (omega arith) h.1)

  pub length-left : (n id : ℕ) (rows : List T) → InOrderFrom key n rows → length (without_row key id rows) + count_if (row_at key id rows) ≡ length rows
  length-left n id [] h = omega arith
  length-left n id (r ∷ rs) h = grind (arith, nat_tests, length-left (key r + 1) id rs h.1, λ (same : key r ≡ id). without_above key (key r + 1) rs id (omega arith) h.1)

  -- a row that has no place
  pub left_none : (id : ℕ) (slots : List (Slot T)) → row_at (slot_key key) id slots ≡ None → without_row key id (rows_in slots) ≡ rows_in slots
  left_none id [] none = refl
  left_none id (Full r ∷ more) none = grind (arith, nat_tests, none, left_none id more)
  left_none id (Gone k ∷ more) none = grind (arith, nat_tests, none, left_none id more)
