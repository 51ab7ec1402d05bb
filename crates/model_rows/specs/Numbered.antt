-- New rows, whose ids are counted as used.
use Rattle.std.specs.Prelude.{◌≡◌, ℕ, ◌+◌, List, [], ◌∷◌, length, map}
use Rattle.model_catalogue.specs.declared.rows.Variation.{Variation}
use Rattle.model_catalogue.specs.declared.rows.ItemRows.{ItemRows}
use Rattle.model_catalogue.specs.declared.rows.Quota.{Quota}
use Rattle.model_rows.specs.declared.rows.CartPos.{CartPos}
use Rattle.model_rows.specs.declared.rows.Voucher.{Voucher}
use Rattle.model_rows.specs.declared.rows.Order.{Order}
use Rattle.model_rows.specs.declared.rows.OrderPos.{OrderPos}
use Rattle.model_rows.specs.declared.rows.Waiting.{Waiting}
use Rattle.model_rows.specs.declared.rows.CheckinList.{CheckinList}
use Rattle.model_rows.specs.declared.rows.Checkin.{Checkin}
use Rattle.model_rows.specs.declared.changes.Change.{Change}
use Rattle.model_rows.specs.declared.changes.Change.TheVariants.{PutItem, PutVariation, PutQuota, PutVoucher, PutCart, PutOrder, PutPosition, PutWaiting, PutCheckinList, PutCheckin}
use Rattle.model_rows.specs.Lists.{State}
use Rattle.model_rows.specs.Change.{after_change, after_all}

-- the ids of these variations count on from n
abbrev pub AreFrom : ℕ → List Variation → Type 0
AreFrom n [] = Unit {0}
AreFrom n (v ∷ vs) = (v.id ≡ n) × AreFrom (n + 1) vs

-- an item is put with its variations
abbrev pub puts_of : ItemRows → List Change
puts_of rows = PutItem rows.item ∷ map PutVariation rows.variations

-- the box office with a new item and its variations, whose ids are counted as used
abbrev pub with_item : ItemRows → State → State
with_item rows state = record state { lists = after_all (puts_of rows) state.lists; next = record state.next { item = state.next.item + 1; variation = state.next.variation + length rows.variations } }

-- the box office with a new variation, whose id is counted as used
abbrev pub with_variation : Variation → State → State
with_variation row state = record state { lists = after_change (PutVariation row) state.lists; next = record state.next { variation = state.next.variation + 1 } }

-- the box office with a new quota, whose id is counted as used
abbrev pub with_quota : Quota → State → State
with_quota row state = record state { lists = after_change (PutQuota row) state.lists; next = record state.next { quota = state.next.quota + 1 } }

-- the box office with a new voucher, whose id is counted as used
abbrev pub with_voucher : Voucher → State → State
with_voucher row state = record state { lists = after_change (PutVoucher row) state.lists; next = record state.next { voucher = state.next.voucher + 1 } }

-- the box office with a new cart position, whose id is counted as used
abbrev pub with_cart : CartPos → State → State
with_cart row state = record state { lists = after_change (PutCart row) state.lists; next = record state.next { cart = state.next.cart + 1 } }

-- the box office with a new order, whose number is counted as used
abbrev pub with_order : Order → State → State
with_order row state = record state { lists = after_change (PutOrder row) state.lists; next = record state.next { order = state.next.order + 1 } }

-- the box office with a new order position, whose id is counted as used
abbrev pub with_position : OrderPos → State → State
with_position row state = record state { lists = after_change (PutPosition row) state.lists; next = record state.next { position = state.next.position + 1 } }

-- the box office with a new waiting entry, whose id is counted as used
abbrev pub with_waiting : Waiting → State → State
with_waiting row state = record state { lists = after_change (PutWaiting row) state.lists; next = record state.next { waiting = state.next.waiting + 1 } }

-- the box office with a new check-in list, whose id is counted as used
abbrev pub with_checkin_list : CheckinList → State → State
with_checkin_list row state = record state { lists = after_change (PutCheckinList row) state.lists; next = record state.next { list = state.next.list + 1 } }

-- the box office with a new check-in, whose id is counted as used
abbrev pub with_checkin : Checkin → State → State
with_checkin row state = record state { lists = after_change (PutCheckin row) state.lists; next = record state.next { checkin = state.next.checkin + 1 } }
