-- The rows of answers as JSON, each with its members in byte order.
use Rattle.std.specs.Prelude.{ℕ, List, map, unwrap_or, codes}
use Rattle.serde_json.specs.Data.{Data, boolean, string, object, Members, member, no_members}
use Rattle.model_catalogue.specs.declared.rows.Item.{Item}
use Rattle.model_catalogue.specs.declared.rows.Variation.{Variation}
use Rattle.model_catalogue.specs.declared.rows.PricedVariation.{PricedVariation}
use Rattle.model_catalogue.specs.declared.rows.Quota.{Quota}
use Rattle.base_values.specs.declared.price_mode.PriceMode.{PriceMode}
use Rattle.base_values.specs.declared.price_mode.PriceMode.TheVariants as modes
use Rattle.model_rows.specs.declared.rows.CartPos.{CartPos}
use Rattle.model_rows.specs.declared.rows.Voucher.{Voucher}
use Rattle.model_commands.specs.declared.replies.Shown.{Shown}
use Rattle.model_commands.specs.declared.replies.Shown.TheVariants as shown
use Rattle.model_rows.specs.declared.rows.Availability.{Availability}
use Rattle.web_json.specs.OrderRows.{order_body}
use Rattle.web_json.specs.WaitingRows.{waiting_body}
use Rattle.web_json.specs.DoorRows.{checkin_list_body, ticket_body}
use Rattle.web_json.specs.Values.{count, count_or_null, money, money_or_null, moment, moment_or_null, list, counts}

-- a variation that is sold at a price; its own price may be null
abbrev pub sold_body : Variation → ℕ → Data
sold_body variation price = object (
    member (codes "active") (boolean variation.active)
    (member (codes "default_price") (money_or_null variation.default_price)
    (member (codes "id") (count variation.id)
    (member (codes "price") (money price)
    (member (codes "value") (string variation.name)
    no_members)))))

-- a variation of an item that costs price: what it costs is its own price or the item's
abbrev pub variation_body : ℕ → Variation → Data
variation_body price variation = sold_body variation (unwrap_or variation.default_price price)

-- a variation, with the price that it costs
abbrev pub priced_body : PricedVariation → Data
priced_body priced = sold_body priced.row priced.price

-- an item's own members, before the rest
abbrev pub item_members : Item → Members → Members
item_members item rest =
    member (codes "active") (boolean item.active)
    (member (codes "default_price") (money item.default_price)
    (member (codes "has_variations") (boolean item.varied)
    (member (codes "id") (count item.id)
    (member (codes "name") (string item.name)
    rest))))

-- an item with its variations
abbrev pub item_body : Item → List Variation → Data
item_body item variations = object (item_members item (member (codes "variations") (list (map (variation_body item.default_price) variations)) no_members))

-- a quota's name, whether it releases places, and its size, which is null where it is unlimited, before the rest
abbrev pub quota_members : Quota → Members → Members
quota_members quota rest =
    member (codes "name") (string quota.name)
    (member (codes "release_after_exit") (boolean quota.release_after_exit)
    (member (codes "size") (count_or_null quota.size)
    rest))

-- a quota
abbrev pub quota_body : Quota → Data
quota_body quota = object (
    member (codes "id") (count quota.id)
    (member (codes "items") (counts quota.items)
    (quota_members quota
    (member (codes "variations") (counts quota.variations)
    no_members))))

-- a cart position, with the ids of its item and of its variation, and of its voucher
abbrev pub cart_body : CartPos → Data
cart_body cart = object (
    member (codes "cart_id") (string cart.cart_id)
    (member (codes "datetime") (moment cart.made_at)
    (member (codes "expires") (moment cart.expires)
    (member (codes "id") (count cart.id)
    (member (codes "item") (count cart.product.item)
    (member (codes "price") (money cart.price)
    (member (codes "variation") (count_or_null cart.product.variation)
    (member (codes "voucher") (count_or_null cart.voucher)
    no_members))))))))

-- the word of a voucher's price mode
abbrev pub mode_word : PriceMode → List ℕ
mode_word modes.None = codes "none"
mode_word modes.Set = codes "set"
mode_word modes.Subtract = codes "subtract"
mode_word modes.Percent = codes "percent"

-- a voucher, with the number of its uses in orders; its value has two decimals, for percent too; its budget is null where it
-- has none
abbrev pub voucher_body : Voucher → ℕ → Data
voucher_body voucher redeemed = object (
    member (codes "allow_ignore_quota") (boolean voucher.allow_ignore_quota)
    (member (codes "block_quota") (boolean voucher.block_quota)
    (member (codes "budget") (money_or_null voucher.budget)
    (member (codes "code") (string voucher.code)
    (member (codes "comment") (string voucher.comment)
    (member (codes "id") (count voucher.id)
    (member (codes "item") (count_or_null voucher.item)
    (member (codes "max_usages") (count voucher.max_usages)
    (member (codes "price_mode") (string (mode_word voucher.price_mode))
    (member (codes "quota") (count_or_null voucher.quota)
    (member (codes "redeemed") (count redeemed)
    (member (codes "tag") (string voucher.tag)
    (member (codes "valid_until") (moment_or_null voucher.valid_until)
    (member (codes "value") (money_or_null voucher.value)
    (member (codes "variation") (count_or_null voucher.variation)
    no_members)))))))))))))))

-- a row as it is shown
abbrev pub shown_body : Shown → Data
shown_body (shown.Item rows) = item_body rows.item rows.variations
shown_body (shown.Variation priced) = priced_body priced
shown_body (shown.Quota quota) = quota_body quota
shown_body (shown.Voucher voucher redeemed) = voucher_body voucher redeemed
shown_body (shown.Cart cart) = cart_body cart
shown_body (shown.Order rows) = order_body rows.order rows.positions
shown_body (shown.Waiting entry) = waiting_body entry
shown_body (shown.CheckinList door) = checkin_list_body door
shown_body (shown.Ticket ticket) = ticket_body ticket.position ticket.checkins

-- what is left of a quota, and what uses it; size and what is left are null where it is unlimited
abbrev pub availability_body : Availability → Data
availability_body left = object (
    member (codes "available") (boolean left.available)
    (member (codes "available_number") (count_or_null left.available_number)
    (member (codes "blocking_vouchers") (count left.usage.blocked)
    (member (codes "cart_positions") (count left.usage.carts)
    (member (codes "exited_orders") (count left.usage.exited)
    (member (codes "paid_orders") (count left.usage.paid)
    (member (codes "pending_orders") (count left.usage.pending)
    (member (codes "total_size") (count_or_null left.size)
    (member (codes "waiting_list") (count left.usage.waiting)
    no_members)))))))))
