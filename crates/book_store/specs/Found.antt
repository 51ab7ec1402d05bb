-- Which rows of a table some ids are of.
use Rattle.std.specs.Prelude.{ℕ, Bool, List}
use Rattle.model_rows.specs.declared.rows.CartPos.{CartPos}
use Rattle.model_rows.specs.declared.rows.OrderPos.{OrderPos}
use Rattle.model_rows.specs.declared.rows.Voucher.{Voucher}
use Rattle.model_rows.specs.declared.rows.Waiting.{Waiting}
use Rattle.model_rows.specs.Lists.{Lists}
use Rattle.book_indexes.specs.Indexes.{Finds}

-- the ids are those of the order positions that pass
abbrev pub FindsPositions : (OrderPos → Bool) → Lists → List ℕ → Type 0
FindsPositions test lists ids = Finds (λ r. r.id) test lists.positions ids

-- the ids are those of the cart positions that pass
abbrev pub FindsCarts : (CartPos → Bool) → Lists → List ℕ → Type 0
FindsCarts test lists ids = Finds (λ r. r.id) test lists.carts ids

-- the ids are those of the waiting entries that pass
abbrev pub FindsEntries : (Waiting → Bool) → Lists → List ℕ → Type 0
FindsEntries test lists ids = Finds (λ r. r.id) test lists.waiting ids

-- the ids are those of the vouchers that pass
abbrev pub FindsVouchers : (Voucher → Bool) → Lists → List ℕ → Type 0
FindsVouchers test lists ids = Finds (λ r. r.id) test lists.vouchers ids
