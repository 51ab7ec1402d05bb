-- The export: a line for each order position.
use Rattle.std.specs.Prelude.{ℕ, List, [], ◌∷◌, ◌++◌, map, Option, Some, None, codes}
use Rattle.std.specs.List.{concat}
use Rattle.std.specs.Fmt.{decimal}
use Rattle.csv.specs.Writing.{default_writer, row_text}
use Rattle.base_values.specs.Codes.{order_code}
use Rattle.base_values.specs.Money.{cents_text}
use Rattle.model_rows.specs.Letters.{status_letter}
use Rattle.model_rows.specs.Lists.{Lists}
use Rattle.model_export.specs.Exported.{rows_exported}
use Rattle.model_export.specs.declared.row.ExportRow.{ExportRow}
use Rattle.app_csv.specs.Lines.{number_or_empty}

-- the names of the columns
abbrev pub header : List (List ℕ)
header = codes "order" ∷ codes "positionid" ∷ codes "status" ∷ codes "item" ∷ codes "variation" ∷ codes "price" ∷ codes "voucher" ∷ codes "secret" ∷ []

-- the code of a position's voucher, or an empty column
abbrev pub code_or_empty : Option (List ℕ) → List ℕ
code_or_empty None = []
code_or_empty (Some code) = code

-- the values of a row
abbrev pub row_fields : ExportRow → List (List ℕ)
row_fields row =
    order_code row.order ∷ decimal row.positionid ∷ status_letter row.status ∷ decimal row.item ∷ number_or_empty row.variation ∷ cents_text row.price
    ∷ code_or_empty row.voucher ∷ row.secret ∷ []

-- a row as one line of CSV
abbrev pub row_line : ExportRow → List ℕ
row_line row = row_text default_writer (row_fields row)

-- the first line of the export
abbrev pub header_line : List ℕ
header_line = row_text default_writer header

-- the names of the columns, and the line of each row
abbrev pub rows_text : List ExportRow → List ℕ
rows_text rows = header_line ++ concat (map row_line rows)

-- of all order positions, order by order, by their numbers there
abbrev pub positions_text : Lists → List ℕ
positions_text lists = rows_text (rows_exported lists)
