-- The keys by which a row is found: when it ends, the row that it names, the digest of its text, what it belongs to.
use Rattle.std.specs.Prelude.{ℕ, Bool, List, Option, Some, None, if◌then◌else◌}
use Rattle.model_rows.specs.declared.rows.Voucher.{Voucher}
use Rattle.model_rows.specs.declared.rows.CartPos.{CartPos}
use Rattle.model_rows.specs.declared.rows.Order.{Order}
use Rattle.model_rows.specs.declared.rows.OrderPos.{OrderPos}
use Rattle.model_rows.specs.declared.rows.Waiting.{Waiting}
use Rattle.model_rows.specs.declared.rows.Checkin.{Checkin}
use Rattle.model_rows.specs.CameDue.{ends_between}
use Rattle.model_rows.specs.Conditions.{is_pending, names}
use Rattle.book_indexes.specs.declared.keys.Keys.{Keys}
use Rattle.book_indexes.specs.Digests.{digest, pair}

-- none of the four keys
abbrev pub no_keys : Keys
no_keys = record { until = None; named = None; text = None; group = None }

-- the keys of a row, if there is one
abbrev pub keys_if : {T : Type 0} → (T → Keys) → Option T → Keys
keys_if keys None = no_keys
keys_if keys (Some row) = keys row

-- by its keys a row ends at `from` or later, and before `to`
abbrev pub has_end : {T : Type 0} → (T → Keys) → ℕ → ℕ → T → Bool
has_end keys from to row = ends_between from to (keys row).until

-- by its keys a row names the row of this id
abbrev pub has_name : {T : Type 0} → (T → Keys) → ℕ → T → Bool
has_name keys id row = names id (keys row).named

-- its text has this digest
abbrev pub has_text : {T : Type 0} → (T → Keys) → ℕ → T → Bool
has_text keys digest row = names digest (keys row).text

-- by its keys a row belongs to this group
abbrev pub has_group : {T : Type 0} → (T → Keys) → ℕ → T → Bool
has_group keys group row = names group (keys row).group

-- a voucher has its end and its code
abbrev pub voucher_keys : Voucher → Keys
voucher_keys v = record { until = v.valid_until; named = None; text = Some (digest v.code); group = None }

-- a cart position has its end, its voucher and its cart
abbrev pub cart_keys : CartPos → Keys
cart_keys c = record { until = Some c.expires; named = c.voucher; text = Some (digest c.cart_id); group = None }

-- an order has its end while it is pending
abbrev pub end_if : Order → Option ℕ
end_if o = if is_pending o.status then Some o.expires else None

-- an order has its end while it is pending, and no other key
abbrev pub order_keys : Order → Keys
order_keys o = record { until = end_if o; named = None; text = None; group = None }

-- an order position has its voucher, its secret and its order
abbrev pub position_keys : OrderPos → Keys
position_keys p = record { until = None; named = p.voucher; text = Some (digest p.secret); group = Some p.order }

-- a waiting entry has its voucher; while it has none, it has its email, and is in the one group of those that wait
abbrev pub waiting_keys_by : List ℕ → Option ℕ → Keys
waiting_keys_by email None = record { until = None; named = None; text = Some (digest email); group = Some 0 }
waiting_keys_by email (Some voucher) = record { until = None; named = Some voucher; text = None; group = None }

-- the keys of a waiting entry, by its email and its voucher
abbrev pub waiting_keys : Waiting → Keys
waiting_keys w = waiting_keys_by w.email w.voucher

-- a check-in has its position, and its list and its position together
abbrev pub checkin_keys : Checkin → Keys
checkin_keys c = record { until = None; named = Some c.position; text = None; group = Some (pair c.list c.position) }
