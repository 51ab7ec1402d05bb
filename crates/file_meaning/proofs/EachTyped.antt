-- One statement for each table of which types promise something, where that of one table is another.
use Rattle.file_meaning.specs.Typed.{EachTyped}

module _ {items variations quotas vouchers carts orders positions waiting checkin_lists checkins tokens kept new : Type 0} where
  pub set_items : EachTyped items variations quotas vouchers carts orders positions waiting checkin_lists checkins tokens kept → new → EachTyped new variations quotas vouchers carts orders positions waiting checkin_lists checkins tokens kept
  set_items each it = record { items = it; variations = each.variations; quotas = each.quotas; vouchers = each.vouchers; carts = each.carts; orders = each.orders; positions = each.positions; waiting = each.waiting; checkin_lists = each.checkin_lists; checkins = each.checkins; tokens = each.tokens; kept = each.kept }

  pub set_variations : EachTyped items variations quotas vouchers carts orders positions waiting checkin_lists checkins tokens kept → new → EachTyped items new quotas vouchers carts orders positions waiting checkin_lists checkins tokens kept
  set_variations each it = record { items = each.items; variations = it; quotas = each.quotas; vouchers = each.vouchers; carts = each.carts; orders = each.orders; positions = each.positions; waiting = each.waiting; checkin_lists = each.checkin_lists; checkins = each.checkins; tokens = each.tokens; kept = each.kept }

  pub set_quotas : EachTyped items variations quotas vouchers carts orders positions waiting checkin_lists checkins tokens kept → new → EachTyped items variations new vouchers carts orders positions waiting checkin_lists checkins tokens kept
  set_quotas each it = record { items = each.items; variations = each.variations; quotas = it; vouchers = each.vouchers; carts = each.carts; orders = each.orders; positions = each.positions; waiting = each.waiting; checkin_lists = each.checkin_lists; checkins = each.checkins; tokens = each.tokens; kept = each.kept }

  pub set_vouchers : EachTyped items variations quotas vouchers carts orders positions waiting checkin_lists checkins tokens kept → new → EachTyped items variations quotas new carts orders positions waiting checkin_lists checkins tokens kept
  set_vouchers each it = record { items = each.items; variations = each.variations; quotas = each.quotas; vouchers = it; carts = each.carts; orders = each.orders; positions = each.positions; waiting = each.waiting; checkin_lists = each.checkin_lists; checkins = each.checkins; tokens = each.tokens; kept = each.kept }

  pub set_carts : EachTyped items variations quotas vouchers carts orders positions waiting checkin_lists checkins tokens kept → new → EachTyped items variations quotas vouchers new orders positions waiting checkin_lists checkins tokens kept
  set_carts each it = record { items = each.items; variations = each.variations; quotas = each.quotas; vouchers = each.vouchers; carts = it; orders = each.orders; positions = each.positions; waiting = each.waiting; checkin_lists = each.checkin_lists; checkins = each.checkins; tokens = each.tokens; kept = each.kept }

  pub set_orders : EachTyped items variations quotas vouchers carts orders positions waiting checkin_lists checkins tokens kept → new → EachTyped items variations quotas vouchers carts new positions waiting checkin_lists checkins tokens kept
  set_orders each it = record { items = each.items; variations = each.variations; quotas = each.quotas; vouchers = each.vouchers; carts = each.carts; orders = it; positions = each.positions; waiting = each.waiting; checkin_lists = each.checkin_lists; checkins = each.checkins; tokens = each.tokens; kept = each.kept }

  pub set_positions : EachTyped items variations quotas vouchers carts orders positions waiting checkin_lists checkins tokens kept → new → EachTyped items variations quotas vouchers carts orders new waiting checkin_lists checkins tokens kept
  set_positions each it = record { items = each.items; variations = each.variations; quotas = each.quotas; vouchers = each.vouchers; carts = each.carts; orders = each.orders; positions = it; waiting = each.waiting; checkin_lists = each.checkin_lists; checkins = each.checkins; tokens = each.tokens; kept = each.kept }

  pub set_waiting : EachTyped items variations quotas vouchers carts orders positions waiting checkin_lists checkins tokens kept → new → EachTyped items variations quotas vouchers carts orders positions new checkin_lists checkins tokens kept
  set_waiting each it = record { items = each.items; variations = each.variations; quotas = each.quotas; vouchers = each.vouchers; carts = each.carts; orders = each.orders; positions = each.positions; waiting = it; checkin_lists = each.checkin_lists; checkins = each.checkins; tokens = each.tokens; kept = each.kept }

  pub set_checkin_lists : EachTyped items variations quotas vouchers carts orders positions waiting checkin_lists checkins tokens kept → new → EachTyped items variations quotas vouchers carts orders positions waiting new checkins tokens kept
  set_checkin_lists each it = record { items = each.items; variations = each.variations; quotas = each.quotas; vouchers = each.vouchers; carts = each.carts; orders = each.orders; positions = each.positions; waiting = each.waiting; checkin_lists = it; checkins = each.checkins; tokens = each.tokens; kept = each.kept }

  pub set_checkins : EachTyped items variations quotas vouchers carts orders positions waiting checkin_lists checkins tokens kept → new → EachTyped items variations quotas vouchers carts orders positions waiting checkin_lists new tokens kept
  set_checkins each it = record { items = each.items; variations = each.variations; quotas = each.quotas; vouchers = each.vouchers; carts = each.carts; orders = each.orders; positions = each.positions; waiting = each.waiting; checkin_lists = each.checkin_lists; checkins = it; tokens = each.tokens; kept = each.kept }

  pub set_tokens : EachTyped items variations quotas vouchers carts orders positions waiting checkin_lists checkins tokens kept → new → EachTyped items variations quotas vouchers carts orders positions waiting checkin_lists checkins new kept
  set_tokens each it = record { items = each.items; variations = each.variations; quotas = each.quotas; vouchers = each.vouchers; carts = each.carts; orders = each.orders; positions = each.positions; waiting = each.waiting; checkin_lists = each.checkin_lists; checkins = each.checkins; tokens = it; kept = each.kept }

  pub set_kept : EachTyped items variations quotas vouchers carts orders positions waiting checkin_lists checkins tokens kept → new → EachTyped items variations quotas vouchers carts orders positions waiting checkin_lists checkins tokens new
  set_kept each it = record { items = each.items; variations = each.variations; quotas = each.quotas; vouchers = each.vouchers; carts = each.carts; orders = each.orders; positions = each.positions; waiting = each.waiting; checkin_lists = each.checkin_lists; checkins = each.checkins; tokens = each.tokens; kept = it }
