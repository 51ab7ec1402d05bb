-- How many rows there are after one came or went.
use Rattle.std.proofs.Common.{◌≡◌, ℕ, ◌+◌, ◌-◌, List, [], ◌∷◌, length, refl, sum_by, arith}
use Rattle.std.proofs.lemmas.List.Sums.{sum_by-cons}
use Rattle.base_tables.specs.Tables.{AreInOrder, row_at, sum_at, with_row, without_row}
use Rattle.base_tables.proofs.Edits.{sum_by-with_row, sum_by-without_row}

length_is : {T : Type 0} (rows : List T) → length rows ≡ sum_by (λ r. 1) rows
length_is [] = refl
length_is (r ∷ rs) = omega (arith, length_is rs, sum_by-cons (λ s. 1) r rs)

module _ {T : Type 0} (key : T → ℕ) where
  pub count_put : (row : T) (rows : List T) → AreInOrder key rows → length (with_row key row rows) ≡ length rows + 1 - sum_at (λ c. 1) (row_at key (key row) rows)
  count_put row rows order = omega (arith, sum_by-with_row key (λ c. 1) 0 row rows order, length_is rows, length_is (with_row key row rows))

  pub count_drop : (id : ℕ) (rows : List T) → AreInOrder key rows → length (without_row key id rows) ≡ length rows - sum_at (λ c. 1) (row_at key id rows)
  count_drop id rows order = omega (arith, sum_by-without_row key (λ c. 1) 0 id rows order, length_is rows, length_is (without_row key id rows))
