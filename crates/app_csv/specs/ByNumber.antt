-- The export is in order of the orders' numbers, and of the positions' numbers in each order.
use Rattle.std.specs.Prelude.{◌≡◌, ℕ, List}
use Rattle.std.specs.List.Sorted.{IsStrictlySortedBy}
use Rattle.std.specs.declared.cmp.Ordering.{Ordering}
use Rattle.std.specs.Ordering.{nat_cmp, ordering_then}
use Rattle.model_export.specs.declared.row.ExportRow.{ExportRow}
use Rattle.app_csv.specs.PositionLines.{rows_text}

-- by the order's number, then by the position's number there
abbrev pub by_number : ExportRow → ExportRow → Ordering
by_number a b = ordering_then (nat_cmp a.order b.order) (nat_cmp a.positionid b.positionid)

-- below the names of the columns the text has the lines of these rows, each behind all that the order puts before it
pub record HasLinesBy (order : ExportRow → ExportRow → Ordering) (text : List ℕ) : Type 0 where
  pub rows : List ExportRow
  pub lines : text ≡ rows_text rows
  pub rise : IsStrictlySortedBy order rows
