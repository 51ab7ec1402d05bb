-- One statement for each table, where that of one table is another.
use Rattle.model_invariant.specs.Ids.{EachTable}

module _ {items variations quotas vouchers carts orders positions waiting checkin_lists checkins new : Type 0} where
  pub set_items : EachTable items variations quotas vouchers carts orders positions waiting checkin_lists checkins → new → EachTable new variations quotas vouchers carts orders positions waiting checkin_lists checkins
  set_items each it = record { items = it; variations = each.variations; quotas = each.quotas; vouchers = each.vouchers; carts = each.carts; orders = each.orders; positions = each.positions; waiting = each.waiting; checkin_lists = each.checkin_lists; checkins = each.checkins }

  pub set_variations : EachTable items variations quotas vouchers carts orders positions waiting checkin_lists checkins → new → EachTable items new quotas vouchers carts orders positions waiting checkin_lists checkins
  set_variations each it = record { items = each.items; variations = it; quotas = each.quotas; vouchers = each.vouchers; carts = each.carts; orders = each.orders; positions = each.positions; waiting = each.waiting; checkin_lists = each.checkin_lists; checkins = each.checkins }

  pub set_quotas : EachTable items variations quotas vouchers carts orders positions waiting checkin_lists checkins → new → EachTable items variations new vouchers carts orders positions waiting checkin_lists checkins
  set_quotas each it = record { items = each.items; variations = each.variations; quotas = it; vouchers = each.vouchers; carts = each.carts; orders = each.orders; positions = each.positions; waiting = each.waiting; checkin_lists = each.checkin_lists; checkins = each.checkins }

  pub set_vouchers : EachTable items variations quotas vouchers carts orders positions waiting checkin_lists checkins → new → EachTable items variations quotas new carts orders positions waiting checkin_lists checkins
  set_vouchers each it = record { items = each.items; variations = each.variations; quotas = each.quotas; vouchers = it; carts = each.carts; orders = each.orders; positions = each.positions; waiting = each.waiting; checkin_lists = each.checkin_lists; checkins = each.checkins }

  pub set_carts : EachTable items variations quotas vouchers carts orders positions waiting checkin_lists checkins → new → EachTable items variations quotas vouchers new orders positions waiting checkin_lists checkins
  set_carts each it = record { items = each.items; variations = each.variations; quotas = each.quotas; vouchers = each.vouchers; carts = it; orders = each.orders; positions = each.positions; waiting = each.waiting; checkin_lists = each.checkin_lists; checkins = each.checkins }

  pub set_orders : EachTable items variations quotas vouchers carts orders positions waiting checkin_lists checkins → new → EachTable items variations quotas vouchers carts new positions waiting checkin_lists checkins
  set_orders each it = record { items = each.items; variations = each.variations; quotas = each.quotas; vouchers = each.vouchers; carts = each.carts; orders = it; positions = each.positions; waiting = each.waiting; checkin_lists = each.checkin_lists; checkins = each.checkins }

  pub set_positions : EachTable items variations quotas vouchers carts orders positions waiting checkin_lists checkins → new → EachTable items variations quotas vouchers carts orders new waiting checkin_lists checkins
  set_positions each it = record { items = each.items; variations = each.variations; quotas = each.quotas; vouchers = each.vouchers; carts = each.carts; orders = each.orders; positions = it; waiting = each.waiting; checkin_lists = each.checkin_lists; checkins = each.checkins }

  pub set_waiting : EachTable items variations quotas vouchers carts orders positions waiting checkin_lists checkins → new → EachTable items variations quotas vouchers carts orders positions new checkin_lists checkins
  set_waiting each it = record { items = each.items; variations = each.variations; quotas = each.quotas; vouchers = each.vouchers; carts = each.carts; orders = each.orders; positions = each.positions; waiting = it; checkin_lists = each.checkin_lists; checkins = each.checkins }

  pub set_checkin_lists : EachTable items variations quotas vouchers carts orders positions waiting checkin_lists checkins → new → EachTable items variations quotas vouchers carts orders positions waiting new checkins
  set_checkin_lists each it = record { items = each.items; variations = each.variations; quotas = each.quotas; vouchers = each.vouchers; carts = each.carts; orders = each.orders; positions = each.positions; waiting = each.waiting; checkin_lists = it; checkins = each.checkins }

  pub set_checkins : EachTable items variations quotas vouchers carts orders positions waiting checkin_lists checkins → new → EachTable items variations quotas vouchers carts orders positions waiting checkin_lists new
  set_checkins each it = record { items = each.items; variations = each.variations; quotas = each.quotas; vouchers = each.vouchers; carts = each.carts; orders = each.orders; positions = each.positions; waiting = each.waiting; checkin_lists = each.checkin_lists; checkins = it }
