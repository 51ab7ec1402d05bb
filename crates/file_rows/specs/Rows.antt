-- Each row as an INSERT of all columns writes it and a SELECT of them shows it.
use Rattle.std.specs.Prelude.{[], ◌∷◌}
use Rattle.sqlite_value.specs.declared.value.Value.TheVariants.{Int, Text, Blob}
use Rattle.sqlite_value.specs.Order.{Row}
use Rattle.sqlite.specs.Values.{or_null}
use Rattle.file_rows.specs.declared.rows.ShopRow.{ShopRow}
use Rattle.model_catalogue.specs.declared.rows.Item.{Item}
use Rattle.model_catalogue.specs.declared.rows.Variation.{Variation}
use Rattle.file_rows.specs.declared.rows.QuotaRow.{QuotaRow}
use Rattle.file_rows.specs.declared.rows.QuotaItem.{QuotaItem}
use Rattle.file_rows.specs.declared.rows.QuotaVariation.{QuotaVariation}
use Rattle.file_rows.specs.declared.rows.VoucherRow.{VoucherRow}
use Rattle.model_rows.specs.declared.rows.CartPos.{CartPos}
use Rattle.model_rows.specs.declared.rows.Order.{Order}
use Rattle.file_rows.specs.declared.rows.PositionRow.{PositionRow}
use Rattle.model_rows.specs.declared.rows.Waiting.{Waiting}
use Rattle.file_rows.specs.declared.rows.ListRow.{ListRow}
use Rattle.file_rows.specs.declared.rows.ListItem.{ListItem}
use Rattle.model_rows.specs.declared.rows.Checkin.{Checkin}
use Rattle.file_rows.specs.declared.rows.CountRow.{CountRow}
use Rattle.file_rows.specs.declared.rows.Token.{Token}
use Rattle.file_rows.specs.declared.rows.KeptRow.{KeptRow}
use Rattle.file_rows.specs.declared.rows.ReleaseRow.{ReleaseRow}
use Rattle.file_rows.specs.declared.rows.ExitRow.{ExitRow}
use Rattle.file_rows.specs.declared.rows.BudgetRow.{BudgetRow}
use Rattle.file_rows.specs.declared.rows.SpentRow.{SpentRow}
use Rattle.file_rows.specs.declared.rows.DiscountRow.{DiscountRow}
use Rattle.file_rows.specs.Cells.{number, truth, mode, status, kind, methods}

-- the shop itself: one row
abbrev pub shop_row : ShopRow → Row
shop_row w = number 1 ∷ number w.version ∷ Text w.organizer ∷ Text w.event ∷ number w.moment ∷ number w.next.item ∷ number w.next.variation ∷ number w.next.quota ∷ number w.next.voucher ∷ number w.next.cart ∷ number w.next.order ∷ number w.next.position ∷ number w.next.waiting ∷ number w.next.list ∷ number w.next.checkin ∷ number w.next_token ∷ []

-- what is sold
abbrev pub item_row : Item → Row
item_row w = number w.id ∷ Text w.name ∷ number w.default_price ∷ truth w.active ∷ truth w.varied ∷ []

-- kinds of items
abbrev pub variation_row : Variation → Row
variation_row w = number w.id ∷ number w.item ∷ Text w.name ∷ or_null number w.default_price ∷ truth w.active ∷ []

-- quotas, without their members
abbrev pub quota_row : QuotaRow → Row
quota_row w = number w.id ∷ Text w.name ∷ or_null number w.size ∷ []

-- the items of quotas
abbrev pub quota_item_row : QuotaItem → Row
quota_item_row w = number w.rowid ∷ number w.quota ∷ number w.item ∷ []

-- the variations of quotas
abbrev pub quota_variation_row : QuotaVariation → Row
quota_variation_row w = number w.rowid ∷ number w.quota ∷ number w.variation ∷ []

-- vouchers, each with how often it is redeemed
abbrev pub voucher_row : VoucherRow → Row
voucher_row w = number w.voucher.id ∷ Text w.voucher.code ∷ number w.voucher.max_usages ∷ or_null number w.voucher.valid_until ∷ truth w.voucher.block_quota ∷ truth w.voucher.allow_ignore_quota ∷ mode w.voucher.price_mode ∷ or_null number w.voucher.value ∷ or_null number w.voucher.item ∷ or_null number w.voucher.variation ∷ or_null number w.voucher.quota ∷ Text w.voucher.tag ∷ Text w.voucher.comment ∷ number w.redeemed ∷ []

-- places that are held in carts
abbrev pub cart_row : CartPos → Row
cart_row w = number w.id ∷ Text w.cart_id ∷ number w.product.item ∷ or_null number w.product.variation ∷ number w.price ∷ number w.made_at ∷ number w.expires ∷ or_null number w.voucher ∷ []

-- orders, by number
abbrev pub order_row : Order → Row
order_row w = number w.id ∷ or_null Text w.email ∷ status w.status ∷ number w.made_at ∷ number w.expires ∷ []

-- the tickets of orders
abbrev pub position_row : PositionRow → Row
position_row w = number w.id ∷ number w.order ∷ number w.positionid ∷ number w.product.item ∷ or_null number w.product.variation ∷ number w.price ∷ or_null number w.voucher ∷ Text w.secret ∷ []

-- the waiting list
abbrev pub waiting_row : Waiting → Row
waiting_row w = number w.id ∷ Text w.email ∷ number w.product.item ∷ or_null number w.product.variation ∷ Int w.priority ∷ number w.created ∷ or_null number w.voucher ∷ []

-- lists by which doors check tickets in, without their items
abbrev pub list_row : ListRow → Row
list_row w = number w.id ∷ Text w.name ∷ truth w.all_products ∷ truth w.include_pending ∷ truth w.allow_multiple_entries ∷ truth w.allow_entry_after_exit ∷ []

-- the items of check-in lists
abbrev pub list_item_row : ListItem → Row
list_item_row w = number w.rowid ∷ number w.list ∷ number w.item ∷ []

-- who came in and went out
abbrev pub checkin_row : Checkin → Row
checkin_row w = number w.id ∷ number w.list ∷ number w.position ∷ kind w.kind ∷ number w.datetime ∷ or_null Text w.nonce ∷ []

-- what uses each quota
abbrev pub count_row : CountRow → Row
count_row w = number w.quota ∷ number w.paid ∷ number w.pending ∷ number w.blocked ∷ number w.carts ∷ number w.waiting ∷ []

-- the digests of tokens
abbrev pub token_row : Token → Row
token_row w = number w.id ∷ Blob w.digest ∷ []

-- kept answers
abbrev pub kept_row : KeptRow → Row
kept_row w = number w.rowid ∷ number w.kept.token ∷ Blob w.kept.key ∷ number w.kept.at ∷ number w.kept.response.status ∷ methods w.kept.response.allow ∷ Blob w.kept.response.body ∷ []

-- the quotas that release places
abbrev pub release_row : ReleaseRow → Row
release_row w = number w.quota ∷ []

-- how many tickets of each quota are out
abbrev pub exit_row : ExitRow → Row
exit_row w = number w.quota ∷ number w.exited ∷ []

-- the vouchers that have a budget
abbrev pub budget_row : BudgetRow → Row
budget_row w = number w.voucher_id ∷ number w.budget ∷ []

-- how much of each voucher is spent
abbrev pub spent_row : SpentRow → Row
spent_row w = number w.voucher_id ∷ number w.spent ∷ []

-- what was taken off the prices of order positions
abbrev pub discount_row : DiscountRow → Row
discount_row w = number w.position_id ∷ number w.discount ∷ []
