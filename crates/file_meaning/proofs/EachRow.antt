-- One statement in the place of another among those of all tables of rows.
use Rattle.file_meaning.specs.Stands.{EachOfRows}

-- one statement for each table, in the order of the tables
of_each : {A B C D E F G H I J K L M N P Q : Type 0} → A → B → C → D → E → F → G → H → I → J → K → L → M → N → P → Q → EachOfRows A B C D E F G H I J K L M N P Q
of_each a b c d e f g h i j k l m n p q = record { items = a; variations = b; quotas = c; quota_items = d; quota_variations = e; quota_release = f; vouchers = g; voucher_budget = h; carts = i; orders = j; positions = k; position_discount = l; waiting = m; checkin_lists = n; list_items = p; checkins = q }

module _ {A B C D E F G H I J K L M N P Q O : Type 0} (each : EachOfRows A B C D E F G H I J K L M N P Q) where
  pub set_items : O → EachOfRows O B C D E F G H I J K L M N P Q
  set_items new = of_each new each.variations each.quotas each.quota_items each.quota_variations each.quota_release each.vouchers each.voucher_budget each.carts each.orders each.positions each.position_discount each.waiting each.checkin_lists each.list_items each.checkins

  pub set_variations : O → EachOfRows A O C D E F G H I J K L M N P Q
  set_variations new = of_each each.items new each.quotas each.quota_items each.quota_variations each.quota_release each.vouchers each.voucher_budget each.carts each.orders each.positions each.position_discount each.waiting each.checkin_lists each.list_items each.checkins

  pub set_quotas : O → EachOfRows A B O D E F G H I J K L M N P Q
  set_quotas new = of_each each.items each.variations new each.quota_items each.quota_variations each.quota_release each.vouchers each.voucher_budget each.carts each.orders each.positions each.position_discount each.waiting each.checkin_lists each.list_items each.checkins

  pub set_quota_items : O → EachOfRows A B C O E F G H I J K L M N P Q
  set_quota_items new = of_each each.items each.variations each.quotas new each.quota_variations each.quota_release each.vouchers each.voucher_budget each.carts each.orders each.positions each.position_discount each.waiting each.checkin_lists each.list_items each.checkins

  pub set_quota_variations : O → EachOfRows A B C D O F G H I J K L M N P Q
  set_quota_variations new = of_each each.items each.variations each.quotas each.quota_items new each.quota_release each.vouchers each.voucher_budget each.carts each.orders each.positions each.position_discount each.waiting each.checkin_lists each.list_items each.checkins

  pub set_quota_release : O → EachOfRows A B C D E O G H I J K L M N P Q
  set_quota_release new = of_each each.items each.variations each.quotas each.quota_items each.quota_variations new each.vouchers each.voucher_budget each.carts each.orders each.positions each.position_discount each.waiting each.checkin_lists each.list_items each.checkins

  pub set_vouchers : O → EachOfRows A B C D E F O H I J K L M N P Q
  set_vouchers new = of_each each.items each.variations each.quotas each.quota_items each.quota_variations each.quota_release new each.voucher_budget each.carts each.orders each.positions each.position_discount each.waiting each.checkin_lists each.list_items each.checkins

  pub set_voucher_budget : O → EachOfRows A B C D E F G O I J K L M N P Q
  set_voucher_budget new = of_each each.items each.variations each.quotas each.quota_items each.quota_variations each.quota_release each.vouchers new each.carts each.orders each.positions each.position_discount each.waiting each.checkin_lists each.list_items each.checkins

  pub set_carts : O → EachOfRows A B C D E F G H O J K L M N P Q
  set_carts new = of_each each.items each.variations each.quotas each.quota_items each.quota_variations each.quota_release each.vouchers each.voucher_budget new each.orders each.positions each.position_discount each.waiting each.checkin_lists each.list_items each.checkins

  pub set_orders : O → EachOfRows A B C D E F G H I O K L M N P Q
  set_orders new = of_each each.items each.variations each.quotas each.quota_items each.quota_variations each.quota_release each.vouchers each.voucher_budget each.carts new each.positions each.position_discount each.waiting each.checkin_lists each.list_items each.checkins

  pub set_positions : O → EachOfRows A B C D E F G H I J O L M N P Q
  set_positions new = of_each each.items each.variations each.quotas each.quota_items each.quota_variations each.quota_release each.vouchers each.voucher_budget each.carts each.orders new each.position_discount each.waiting each.checkin_lists each.list_items each.checkins

  pub set_position_discount : O → EachOfRows A B C D E F G H I J K O M N P Q
  set_position_discount new = of_each each.items each.variations each.quotas each.quota_items each.quota_variations each.quota_release each.vouchers each.voucher_budget each.carts each.orders each.positions new each.waiting each.checkin_lists each.list_items each.checkins

  pub set_waiting : O → EachOfRows A B C D E F G H I J K L O N P Q
  set_waiting new = of_each each.items each.variations each.quotas each.quota_items each.quota_variations each.quota_release each.vouchers each.voucher_budget each.carts each.orders each.positions each.position_discount new each.checkin_lists each.list_items each.checkins

  pub set_checkin_lists : O → EachOfRows A B C D E F G H I J K L M O P Q
  set_checkin_lists new = of_each each.items each.variations each.quotas each.quota_items each.quota_variations each.quota_release each.vouchers each.voucher_budget each.carts each.orders each.positions each.position_discount each.waiting new each.list_items each.checkins

  pub set_list_items : O → EachOfRows A B C D E F G H I J K L M N O Q
  set_list_items new = of_each each.items each.variations each.quotas each.quota_items each.quota_variations each.quota_release each.vouchers each.voucher_budget each.carts each.orders each.positions each.position_discount each.waiting each.checkin_lists new each.checkins

  pub set_checkins : O → EachOfRows A B C D E F G H I J K L M N P O
  set_checkins new = of_each each.items each.variations each.quotas each.quota_items each.quota_variations each.quota_release each.vouchers each.voucher_budget each.carts each.orders each.positions each.position_discount each.waiting each.checkin_lists each.list_items new
