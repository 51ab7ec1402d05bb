-- What a row that is put or removed does to look-ups and to sums over the rows.
use Rattle.std.proofs.Common.{◌≡◌, ℕ, ◌+◌, ◌<◌, ◌≤◌, List, [], ◌∷◌, Some, None, eqb, if◌then◌else◌, refl, sum_by, length, arith}
use Rattle.std.proofs.lemmas.Bool.Decides.{nat_tests}
use Rattle.std.proofs.lemmas.List.Sums.{sum_by-cons}
use Rattle.base_tables.specs.Tables.{row_at, with_row, without_row, InOrderFrom, AreKept, sum_at}
use Rattle.base_tables.proofs.Places.{with_row_in_order, without_row_in_order}

module _ {T : Type 0} (key : T → ℕ) where
  pub row_at-with_row : (id : ℕ) (row : T) (rows : List T) → row_at key id (with_row key row rows) ≡ (if eqb (key row) id then Some row else row_at key id rows)
  row_at-with_row id row [] = refl
  row_at-with_row id row (r ∷ rs) = grind (arith, nat_tests, row_at-with_row id row rs)

  pub row_at-without_row : (id gone : ℕ) (rows : List T) → row_at key id (without_row key gone rows) ≡ (if eqb gone id then None else row_at key id rows)
  row_at-without_row id gone [] = grind (arith, nat_tests)
  row_at-without_row id gone (r ∷ rs) = grind (arith, nat_tests, row_at-without_row id gone rs)

  pub row_at_above : (n id : ℕ) (rows : List T) → id < n → InOrderFrom key n rows → row_at key id rows ≡ None
  row_at_above n id [] lt h = refl
  row_at_above n id (r ∷ rs) lt h = grind (arith, nat_tests, h.0, row_at_above (key r + 1) id rs (omega (arith, h.0)) h.1)

  without_row_above : (n id : ℕ) (rows : List T) → id < n → InOrderFrom key n rows → without_row key id rows ≡ rows
  without_row_above n id [] lt h = refl
  without_row_above n id (r ∷ rs) lt h = grind (arith, nat_tests, h.0, without_row_above (key r + 1) id rs (omega (arith, h.0)) h.1)

  -- a sum loses what the row of the id adds to it, and gains what the new row adds
  pub sum_by-with_row : (f : T → ℕ) (n : ℕ) (row : T) (rows : List T) → InOrderFrom key n rows → sum_by f (with_row key row rows) + sum_at f (row_at key (key row) rows) ≡ sum_by f rows + f row
  sum_by-with_row f n row [] h = omega arith
  sum_by-with_row f n row (r ∷ rs) h = grind (arith, nat_tests, sum_by-cons f r rs, sum_by-cons f row rs, sum_by-cons f r (with_row key row rs), sum_by-cons f row (r ∷ rs), sum_by-with_row f (key r + 1) row rs h.1, λ (lt : key row < key r). row_at_above (key r + 1) (key row) rs (omega arith) h.1)

  pub sum_by-without_row : (f : T → ℕ) (n id : ℕ) (rows : List T) → InOrderFrom key n rows → sum_by f (without_row key id rows) + sum_at f (row_at key id rows) ≡ sum_by f rows
  sum_by-without_row f n id [] h = omega arith
  sum_by-without_row f n id (r ∷ rs) h = grind (arith, nat_tests, sum_by-cons f r rs, sum_by-cons f r (without_row key id rs), sum_by-without_row f (key r + 1) id rs h.1, λ (same : key r ≡ id). without_row_above (key r + 1) id rs (omega arith) h.1)

  pub length-with_row : (row : T) (rows : List T) → length (with_row key row rows) ≤ length rows + 1
  length-with_row row [] = omega arith
  length-with_row row (r ∷ rs) = grind (arith, nat_tests, length-with_row row rs)

  pub length-without_row : (id : ℕ) (rows : List T) → length (without_row key id rows) ≤ length rows
  length-without_row id [] = omega arith
  length-without_row id (r ∷ rs) = grind (arith, nat_tests, length-without_row id rs)

  pub kept_more : (limit : ℕ) (rows : List T) → AreKept key limit rows → AreKept key (limit + 1) rows
  kept_more limit rows k = record { in_order = k.in_order; few = omega (arith, k.few) }

  pub kept-with_row : (limit : ℕ) (row : T) (rows : List T) → AreKept key limit rows → AreKept key (limit + 1) (with_row key row rows)
  kept-with_row limit row rows k = record { in_order = with_row_in_order key 0 row rows (omega arith) k.in_order; few = omega (arith, k.few, length-with_row row rows) }

  pub kept-without_row : (limit id : ℕ) (rows : List T) → AreKept key limit rows → AreKept key (limit + 1) (without_row key id rows)
  kept-without_row limit id rows k = record { in_order = without_row_in_order key 0 id rows k.in_order; few = omega (arith, k.few, length-without_row id rows) }
