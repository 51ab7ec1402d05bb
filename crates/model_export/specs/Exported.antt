-- The order positions as an export shows them.
use Rattle.std.specs.Prelude.{ℕ, List, map, Option, Some, None, option_map}
use Rattle.std.specs.List.{flat_map}
use Rattle.model_rows.specs.declared.rows.Order.{Order}
use Rattle.model_rows.specs.declared.rows.OrderPos.{OrderPos}
use Rattle.model_rows.specs.Lists.{Lists, positions_of, voucher_at}
use Rattle.model_invariant.specs.Positions.{by_positionid}
use Rattle.model_export.specs.declared.row.ExportRow.{ExportRow}

-- the code of the voucher of this id, where one is named
abbrev pub code_of : Option ℕ → Lists → Option (List ℕ)
code_of None lists = None
code_of (Some id) lists = option_map (λ v. v.code) (voucher_at id lists)

-- a position of an order, with the code of its voucher
abbrev pub export_row : Lists → Order → OrderPos → ExportRow
export_row lists o p = record { order = o.id; positionid = p.positionid; status = o.status; item = p.product.item; variation = p.product.variation; price = p.price; voucher = code_of p.voucher lists; secret = p.secret }

-- an order's positions, by their numbers there
abbrev pub rows_of_order : Lists → Order → List ExportRow
rows_of_order lists o = map (export_row lists o) (by_positionid (positions_of o.id lists))

-- the rows of an export, a row for each position: order by order, by number
abbrev pub rows_exported : Lists → List ExportRow
rows_exported lists = flat_map (rows_of_order lists) lists.orders
