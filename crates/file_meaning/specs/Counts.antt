-- Counts that are put one after another.
use Rattle.std.specs.Prelude.{◌≡◌, ◌⊎◌, ℕ, Bool, true, List, [], ◌∷◌, Some, None, is_some}
use Rattle.base_tables.specs.Tables.{row_at, with_row, AreInOrder}
use Rattle.model_rows.specs.declared.rows.Voucher.{Voucher}
use Rattle.model_rows.specs.declared.count_rows.VoucherCount.{VoucherCount}

-- the rows with these ones, each in the place of its id
abbrev pub with_all : {T : Type 0} → (T → ℕ) → List T → List T → List T
with_all key [] rows = rows
with_all key (row ∷ more) rows = with_all key more (with_row key row rows)

-- While changes are made: each row has a part of a voucher's counts, of one that stands; and counts that aren't to be written have their part as
-- before, or their voucher is gone, once one was dropped.
pub record CountsKept {U : Type 0} (key : U → ℕ) (part : VoucherCount → U) (dropped : Bool) (listed before : List VoucherCount) (vouchers : List Voucher) (rows : List U) : Type 0 where
  pub in_order : AreInOrder key rows
  pub gone : (id : ℕ) → row_at (λ v. v.id) id vouchers ≡ None → row_at key id rows ≡ None
  pub as_before : (id : ℕ) (count : VoucherCount) → row_at (λ c. c.voucher) id before ≡ Some count → row_at (λ c. c.voucher) id listed ≡ None
      → ((dropped ≡ true) × (row_at (λ v. v.id) id vouchers ≡ None)) ⊎ (row_at key id rows ≡ Some (part count))

-- each voucher that stands has a row
abbrev pub AllStand : {U : Type 0} → (U → ℕ) → List Voucher → List U → Type 0
AllStand key vouchers rows = (id : ℕ) → is_some (row_at key id rows) ≡ is_some (row_at (λ v. v.id) id vouchers)
