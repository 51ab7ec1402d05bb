-- The voucher that a put row names, and the one that the row before it named.
use Rattle.std.specs.Prelude.{ℕ, Bool, ◌||◌, List, Option, Some, None}
use Rattle.model_rows.specs.declared.rows.CartPos.{CartPos}
use Rattle.model_rows.specs.declared.rows.Waiting.{Waiting}
use Rattle.model_rows.specs.declared.changes.Change.{Change}
use Rattle.model_rows.specs.declared.changes.Change.TheVariants.{PutCart, PutPosition, PutWaiting, DropCart, DropWaiting}
use Rattle.model_rows.specs.Lists.{Lists, cart_at, waiting_at}
use Rattle.book_log.specs.Places.{touches_table}

-- the voucher that a cart position names, if there is one that does
abbrev pub cart_name : Option CartPos → Option ℕ
cart_name None = None
cart_name (Some cart) = cart.voucher

-- the voucher that a waiting entry names
abbrev pub entry_name : Option Waiting → Option ℕ
entry_name None = None
entry_name (Some entry) = entry.voucher

-- the voucher that the row names which a change puts
abbrev pub name_put : Change → Option ℕ
name_put (PutCart row) = row.voucher
name_put (PutPosition row) = row.voucher
name_put (PutWaiting row) = row.voucher
name_put _ = None

-- a change touches a row that may name a voucher: a cart position, an order position, or a waiting entry
abbrev pub touches_names : List Change → Bool
touches_names changes = (touches_table 4 changes || touches_table 6 changes) || touches_table 7 changes

-- the voucher that the row named which a change replaces or drops
abbrev pub name_gone : Lists → Change → Option ℕ
name_gone lists (PutCart row) = cart_name (cart_at row.id lists)
name_gone lists (DropCart id) = cart_name (cart_at id lists)
name_gone lists (PutWaiting row) = entry_name (waiting_at row.id lists)
name_gone lists (DropWaiting id) = entry_name (waiting_at id lists)
name_gone lists _ = None
