-- Rows that are numbered stay so, and stay few, where one is put or goes; and so do next ids in range.
use Rattle.std.proofs.Common.{◌≡◌, ℕ, ◌+◌, ◌<◌, ◌≤◌, List, [], ◌∷◌, length, Some, arith}
use Rattle.std.specs.Prelude.{true}
use Rattle.std.specs.List.{AllByRecursion}
use Rattle.std.proofs.lemmas.Bool.Decides.{nat_tests}
use Rattle.base_tables.specs.Tables.{row_at, with_row, without_row, InOrderFrom}
use Rattle.base_tables.proofs.Edits.{length-with_row, length-without_row, row_at_above}
use Rattle.base_tables.proofs.Places.{with_row_in_order, without_row_in_order}
use Rattle.model_catalogue.specs.Limits.{most_rows, last_id, takes_row, takes_rows}
use Rattle.model_rows.proofs.EachRow.{all_weaker, all-with_row, all-without_row, all-row_at, key-row_at, found_below}
use Rattle.model_invariant.specs.Ids.{AreNumbered}
use Rattle.model_invariant.specs.Range.{IsNextId}

module _ {T : Type 0} (key : T → ℕ) where
  below_more : (next : ℕ) (rows : List T) → AllByRecursion (λ r. key r < next) rows → AllByRecursion (λ r. key r < next + 1) rows
  below_more next rows h = all_weaker (λ r. key r < next) (λ r. key r < next + 1) (λ r lt. omega (arith, lt)) rows h

  pub numbered_none : (next : ℕ) → AreNumbered key next []
  numbered_none next = record { in_order = tt; from_one = tt; below = tt }

  -- a row with the next id
  pub numbered_put : (row : T) (next : ℕ) (rows : List T) → key row ≡ next → 1 ≤ next → AreNumbered key next rows → AreNumbered key (next + 1) (with_row key row rows)
  numbered_put row next rows e le h = record {
    in_order = with_row_in_order key 0 row rows (omega arith) h.in_order;
    from_one = all-with_row key (λ r. 1 ≤ key r) row rows (omega (arith, e, le)) h.from_one;
    below = all-with_row key (λ r. key r < next + 1) row rows (omega (arith, e)) (below_more next rows h.below);
  }

  -- a row with the id of one that stands
  pub numbered_changed : (row old : T) (next : ℕ) (rows : List T) → row_at key (key row) rows ≡ Some old → AreNumbered key next rows → AreNumbered key next (with_row key row rows)
  numbered_changed row old next rows e h = record {
    in_order = with_row_in_order key 0 row rows (omega arith) h.in_order;
    from_one = all-with_row key (λ r. 1 ≤ key r) row rows (omega (arith, all-row_at key (λ r. 1 ≤ key r) (key row) rows old e h.from_one, key-row_at key (key row) rows old e)) h.from_one;
    below = all-with_row key (λ r. key r < next) row rows (found_below key (key row) next rows old e h.below) h.below;
  }

  pub numbered_dropped : (id next : ℕ) (rows : List T) → AreNumbered key next rows → AreNumbered key next (without_row key id rows)
  numbered_dropped id next rows h = record {
    in_order = without_row_in_order key 0 id rows h.in_order;
    from_one = all-without_row key (λ r. 1 ≤ key r) id rows h.from_one;
    below = all-without_row key (λ r. key r < next) id rows h.below;
  }

  -- one row more
  pub few_put : (most : ℕ) (row : T) (rows : List T) → length rows < most → length (with_row key row rows) ≤ most
  few_put most row rows lt = omega (arith, lt, length-with_row key row rows)

  -- as many as before
  length_changed : (n : ℕ) (row old : T) (rows : List T) → InOrderFrom key n rows → row_at key (key row) rows ≡ Some old → length (with_row key row rows) ≡ length rows
  length_changed n row old [] h e = absurd (cc (e))
  length_changed n row old (r ∷ rs) h e = grind (arith, nat_tests, e, length_changed (key r + 1) row old rs h.1, λ (lt : key row < key r). row_at_above key (key r + 1) (key row) rs (omega arith) h.1)

  pub few_changed : (most : ℕ) (row old : T) (rows : List T) → InOrderFrom key 0 rows → row_at key (key row) rows ≡ Some old → length rows ≤ most → length (with_row key row rows) ≤ most
  few_changed most row old rows h e few = omega (arith, few, length_changed 0 row old rows h e)

  pub few_dropped : (most id : ℕ) (rows : List T) → length rows ≤ most → length (without_row key id rows) ≤ most
  few_dropped most id rows few = omega (arith, few, length-without_row key id rows)

-- a table takes one row more, which has the next id
abbrev pub Takes : {T : Type 0} → ℕ → List T → Type 0
Takes next rows = (length rows < most_rows) × (next ≤ last_id)

pub takes_it : {T : Type 0} (next : ℕ) (rows : List T) → takes_row next rows ≡ true → Takes next rows
takes_it next rows h = (grind (arith, nat_tests, h), grind (arith, nat_tests, h))

-- or several, whose ids count on
abbrev pub TakesSome : {T : Type 0} → ℕ → ℕ → List T → Type 0
TakesSome count next rows = (length rows + count ≤ most_rows) × (next + count ≤ last_id + 1)

pub takes_them : {T : Type 0} (count next : ℕ) (rows : List T) → takes_rows count next rows ≡ true → TakesSome count next rows
takes_them count next rows h = (grind (arith, nat_tests, h), grind (arith, nat_tests, h))

-- the first of several, and then the others
module _ {T : Type 0} (key : T → ℕ) (row : T) (others : List T) (next : ℕ) (rows : List T) where
  pub takes_first : TakesSome (length (row ∷ others)) next rows → Takes next rows
  takes_first t = (omega (arith, t.0), omega (arith, t.1))

  pub takes_others : TakesSome (length (row ∷ others)) next rows → TakesSome (length others) (next + 1) (with_row key row rows)
  takes_others t = (omega (arith, t.0, length-with_row key row rows), omega (arith, t.1))

-- an id more is used
pub next_put : (last next : ℕ) → next ≤ last → IsNextId last next → IsNextId last (next + 1)
next_put last next le h = record { from_one = omega arith; within = omega (arith, le) }
