-- What is seen of the row of one id.
use Rattle.std.specs.Prelude.{ℕ, ◌+◌, ◌*◌, Bool, ◌&&◌, ◌==◌, List, Option, filter, length}
use Rattle.base_values.specs.Texts.{same_text}
use Rattle.model_catalogue.specs.declared.rows.Product.{Product}
use Rattle.model_catalogue.specs.declared.rows.Quota.{Quota}
use Rattle.model_catalogue.specs.Member.{is_in}
use Rattle.model_rows.specs.declared.rows.CartPos.{CartPos}
use Rattle.model_rows.specs.declared.rows.Checkin.{Checkin}
use Rattle.model_rows.specs.declared.rows.OrderPos.{OrderPos}
use Rattle.model_rows.specs.declared.rows.Voucher.{Voucher}
use Rattle.model_rows.specs.declared.rows.Waiting.{Waiting}
use Rattle.model_rows.specs.Conditions.{is_in_force, is_live_cart}
use Rattle.model_rows.specs.Lists.{Lists, voucher_at, order_at, position_at, waiting_at, checkin_at}
use Rattle.model_rows.specs.Usage.{stands_as}
use Rattle.model_rows.specs.Waits.{waits_as}
use Rattle.book_indexes.specs.Indexes.{ids_passing}
use Rattle.book_store.specs.Walks.{row_as_list, passing, one_if}

-- the voucher of an id, if it has the code
abbrev pub coded_at : ℕ → List ℕ → Lists → Option Voucher
coded_at id code lists = passing (λ v. same_text v.code code) (voucher_at id lists)

-- the order position of an id, if it has the secret
abbrev pub secret_at : ℕ → List ℕ → Lists → Option OrderPos
secret_at id secret lists = passing (λ p. same_text p.secret secret) (position_at id lists)

-- the waiting entry of an id, if it is of this email and waits, without a voucher, for this product
abbrev pub entry_as : ℕ → List ℕ → Product → Lists → Option Waiting
entry_as id email product lists = passing (waits_as email product) (waiting_at id lists)

-- the check-in of an id, if there is one, and it is of this position by this list
abbrev pub checkin_by : ℕ → ℕ → ℕ → Lists → List Checkin
checkin_by id list position lists = filter (λ c. c.list == list && c.position == position) (row_as_list (checkin_at id lists))

-- the ids of those of these cart positions that are in the cart
abbrev pub ids_in_cart : List ℕ → List CartPos → List ℕ
ids_in_cart cart rows = ids_passing (λ c. c.id) (λ c. same_text c.cart_id cart) rows

-- 1 where the order position of an id stands, and its order is in force
abbrev pub use_at : ℕ → Lists → ℕ
use_at id lists = one_if (λ p. stands_as is_in_force (order_at p.order lists)) (position_at id lists)

-- a cart position is live at a moment, and for a product of the quota
abbrev pub is_live_in : ℕ → Quota → CartPos → Bool
is_live_in at quota cart = is_live_cart at cart && is_in quota cart.product

-- a step for each row that counts in a quota: each order position three times, each voucher, cart position and waiting entry once
abbrev pub recount_steps : Lists → ℕ
recount_steps lists = length lists.positions * 3 + length lists.vouchers + length lists.carts + length lists.waiting
