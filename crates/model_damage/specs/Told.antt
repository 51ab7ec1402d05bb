-- The office that rows of a file tell.
use Rattle.model_rows.specs.Lists.{Lists, State}
use Rattle.model_damage.specs.declared.file_rows.FileRows.{FileRows}
use Rattle.model_damage.specs.Rules.{File}

-- each list of the office is the rows of its table, as they are
abbrev pub lists_of : FileRows → Lists
lists_of rows = record {
  catalogue = record { items = rows.items.items; variations = rows.variations.items; quotas = rows.quotas.items };
  vouchers = rows.vouchers.items;
  carts = rows.carts.items;
  orders = rows.orders.items;
  positions = rows.positions.items;
  waiting = rows.waiting.items;
  checkin_lists = rows.checkin_lists.items;
  checkins = rows.checkins.items;
}

-- the office that has these lists, with the next ids and the moment of the shop's row
abbrev pub state_of : FileRows → State
state_of rows = record { lists = lists_of rows; next = rows.next; moment = rows.moment }

-- with the counters that stand beside it
abbrev pub file_of : FileRows → File
file_of rows = record { organizer = rows.organizer; event = rows.event; state = state_of rows; used = rows.used.items; redeemed = rows.redeemed.items }
