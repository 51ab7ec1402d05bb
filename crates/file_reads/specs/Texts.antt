-- The SELECT of all columns of each table: a file has the table where the text has a meaning in it.
use Rattle.std.specs.Prelude.{ℕ, List, codes}
use Rattle.file_schema.specs.Described.{select_text}
use Rattle.file_schema.specs.Descriptions.{quota_items, vouchers, order_positions}

-- the shop's own row: its version, names and moment, and the next id of each table
abbrev pub shop_text : List ℕ
shop_text = codes "SELECT id, version, organizer, event, moment, next_item, next_variation, next_quota, next_voucher, next_cart, next_order, next_position, next_waiting, next_list, next_checkin, next_token FROM shop ORDER BY id"

-- the items, by id; their variations have a table of their own
abbrev pub items_text : List ℕ
items_text = codes "SELECT id, name, default_price, active, varied FROM items ORDER BY id"

-- the variations, by id, each with the id of its item
abbrev pub variations_text : List ℕ
variations_text = codes "SELECT id, item_id, name, default_price, active FROM variations ORDER BY id"

-- the quotas, by id, without their members
abbrev pub quotas_text : List ℕ
quotas_text = codes "SELECT id, name, size FROM quotas ORDER BY id"

-- the items that are members of quotas, by the number of the link's row
abbrev pub quota_items_text : List ℕ
quota_items_text = select_text quota_items

-- the variations that are members of quotas, by the number of the link's row
abbrev pub quota_variations_text : List ℕ
quota_variations_text = codes "SELECT rowid, quota_id, variation_id FROM quota_variations ORDER BY rowid"

-- the vouchers, by id, each with the number of its uses in orders
abbrev pub vouchers_text : List ℕ
vouchers_text = select_text vouchers

-- the cart positions, by id, alive or dead
abbrev pub carts_text : List ℕ
carts_text = codes "SELECT id, cart_id, item_id, variation_id, price, made_at, expires, voucher_id FROM cart_positions ORDER BY id"

-- the orders, by number; their positions have a table of their own
abbrev pub orders_text : List ℕ
orders_text = codes "SELECT id, email, status, made_at, expires FROM orders ORDER BY id"

-- the positions of all orders, by id, each with its order and its number in it
abbrev pub positions_text : List ℕ
positions_text = select_text order_positions

-- the entries of the waiting list, by id and not by their turn
abbrev pub waiting_text : List ℕ
waiting_text = codes "SELECT id, email, item_id, variation_id, priority, created, voucher_id FROM waiting ORDER BY id"

-- the check-in lists, by id, without their items
abbrev pub checkin_lists_text : List ℕ
checkin_lists_text = codes "SELECT id, name, all_products, include_pending, multiple, after_exit FROM checkin_lists ORDER BY id"

-- the items that check-in lists are for, by the number of the link's row
abbrev pub list_items_text : List ℕ
list_items_text = codes "SELECT rowid, list_id, item_id FROM list_items ORDER BY rowid"

-- the check-ins of all lists, by id
abbrev pub checkins_text : List ℕ
checkins_text = codes "SELECT id, list_id, position_id, kind, at, nonce FROM checkins ORDER BY id"

-- how much of each quota is used, by the quota's id
abbrev pub counts_text : List ℕ
counts_text = codes "SELECT quota_id, paid, pending, blocked, carts, waiting FROM quota_count ORDER BY quota_id"

-- the tokens, by number, each as the digest of its text
abbrev pub tokens_text : List ℕ
tokens_text = codes "SELECT id, digest FROM tokens ORDER BY id"

-- the kept answers, by the number of the row, each under its token and key
abbrev pub kept_text : List ℕ
kept_text = codes "SELECT rowid, token_id, request_key, first_moment, status, allow, body FROM kept ORDER BY rowid"

-- the quotas that release the places of tickets that went out, by id
abbrev pub releases_text : List ℕ
releases_text = codes "SELECT quota_id FROM quota_release ORDER BY quota_id"

-- how many tickets of each quota are out, by the quota's id
abbrev pub exits_text : List ℕ
exits_text = codes "SELECT quota_id, exited FROM quota_exited ORDER BY quota_id"

-- the budgets of vouchers, by the voucher's id
abbrev pub budgets_text : List ℕ
budgets_text = codes "SELECT voucher_id, budget FROM voucher_budget ORDER BY voucher_id"

-- how much of each voucher is spent, by the voucher's id
abbrev pub spents_text : List ℕ
spents_text = codes "SELECT voucher_id, spent FROM voucher_spent ORDER BY voucher_id"

-- the discounts of order positions, by the position's id
abbrev pub discounts_text : List ℕ
discounts_text = codes "SELECT position_id, discount FROM position_discount ORDER BY position_id"
