-- A line of an export as a SELECT shows it.
use Rattle.std.specs.Prelude.{[], ◌∷◌, ◌<◌, ◌^◌, IfSome}
use Rattle.sqlite_value.specs.declared.value.Value.TheVariants.{Text}
use Rattle.sqlite_value.specs.Order.{Row}
use Rattle.sqlite.specs.Values.{or_null}
use Rattle.base_values.specs.Money.{IsMoney}
use Rattle.file_rows.specs.Cells.{number, status}
use Rattle.file_rows.specs.Fit.{IsStored}
use Rattle.model_export.specs.declared.row.ExportRow.{ExportRow}

-- the values of a line, one for each column of the SELECT
abbrev pub cells : ExportRow → Row
cells e = number e.order ∷ number e.positionid ∷ status e.status ∷ number e.item ∷ or_null number e.variation ∷ number e.price ∷ or_null Text e.voucher ∷ Text e.secret ∷ []

-- its values are within the limits of the columns that it is read from
pub record IsFitLine (e : ExportRow) : Type 0 where
  pub positionid : e.positionid < 2 ^ 32
  pub price : IsMoney e.price
  pub voucher : IfSome e.voucher IsStored
  pub secret : IsStored e.secret
