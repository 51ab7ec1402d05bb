-- Each order position has one line in the join, where its order and its voucher stand.
use Rattle.std.proofs.Common.{◌≡◌, ◌+◌, ℕ, pos, Bool, true, false, cond, ◌&&◌, ◌==◌, List, [], ◌∷◌, Option, Some, None, refl, ap, ◌∙◌, arith}
use Rattle.sqlite.specs.Values.{or_null}
use Rattle.sqlite_value.specs.declared.value.Value.{Value}
use Rattle.sqlite_value.specs.declared.value.Value.TheVariants.{Null, Int, Real, Text, Blob}
use Rattle.sqlite_value.proofs.OrderLemmas.{value_cmp-Int}
use Rattle.std.specs.Ordering.{is_eq}
use Rattle.std.proofs.lemmas.Bool.Decides.{nat_tests}
use Rattle.sqlite_sql.specs.Ops.{binary}
use Rattle.file_schema.proofs.Keyed.{equals_rowid}
use Rattle.file_schema.proofs.Owner.{same_number, stays_true}
use Rattle.base_tables.specs.Tables.{InOrderFrom, row_at}
use Rattle.file_meaning.proofs.Order.{rows_at, at_above}
use Rattle.file_rows.specs.Cells.{number}
use Rattle.file_rows.specs.Rows.{position_row, order_row, voucher_row}
use Rattle.file_rows.specs.declared.rows.PositionRow.{PositionRow}
use Rattle.file_rows.specs.declared.rows.VoucherRow.{VoucherRow}
use Rattle.model_rows.specs.declared.rows.Order.{Order}
use Rattle.app_export.proofs.Joined.{equal, is_of, is_named}

numbers_equal : (a b : ℕ) → equal (number a) (number b) ≡ (a == b)
numbers_equal a b = equals_rowid (number a) (pos b) ∙ ap is_eq (value_cmp-Int (pos a) (pos b)) ∙ same_number a b

-- nothing is equal to what isn't there
none_equal : (v : Value) → equal v Null ≡ false
unfolding binary
none_equal Null = refl
none_equal (Int n) = refl
none_equal (Real x) = refl
none_equal (Text t) = refl
none_equal (Blob b) = refl

pub of_order : (w : PositionRow) (o : Order) → is_of (position_row w) (order_row o) ≡ (o.id == w.order)
of_order w o = stays_true _ ∙ numbers_equal o.id w.order

abbrev pub names : Option ℕ → VoucherRow → Bool
names None v = false
names (Some id) v = v.voucher.id == id

named_by : (n : Option ℕ) (v : VoucherRow) → (equal (number v.voucher.id) (or_null number n) && true) ≡ names n v
named_by None v = ap (λ b. b && true) (none_equal (number v.voucher.id))
named_by (Some id) v = stays_true _ ∙ numbers_equal v.voucher.id id

pub of_voucher : (w : PositionRow) (v : VoucherRow) → is_named (position_row w) (voucher_row v) ≡ names w.voucher v
of_voucher w v = named_by w.voucher v

-- ---- of rows in order of id that of an id is one

pub only_one : {T : Type 0} (key : T → ℕ) (n id : ℕ) (rows : List T) (r : T) → InOrderFrom key n rows → row_at key id rows ≡ Some r → rows_at key id rows ≡ r ∷ []
only_one key n id [] r h at = absurd (cc)
only_one key n id (x ∷ rows) r h at =
    elim (key x == id) as (λ b. (key x == id) ≡ b → cond b (Some x) (row_at key id rows) ≡ Some r → cond b (x ∷ rows_at key id rows) (rows_at key id rows) ≡ r ∷ []) [
      | true ↦ λ is found. let same : x ≡ r = cc in ap (λ l. x ∷ l) (at_above key (key x + 1) id rows (grind (arith, nat_tests)) h.1) ∙ ap (λ y. y ∷ []) same
      | false ↦ λ is found. only_one key (key x + 1) id rows r h.1 found
    ] refl at
