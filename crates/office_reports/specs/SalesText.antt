-- The sales report: a line for each item, and one for all.
use Rattle.std.specs.Prelude.{ℕ, ◌+◌, List, [], ◌∷◌, ◌++◌, map, codes}
use Rattle.std.specs.List.{concat}
use Rattle.std.specs.Fmt.{decimal}
use Rattle.base_values.specs.Money.{cents_text}
use Rattle.model_catalogue.specs.declared.rows.Item.{Item}
use Rattle.model_rows.specs.Lists.{Lists}
use Rattle.office_reports.specs.declared.sales.Sales.{Sales}
use Rattle.office_reports.specs.declared.sales.ItemSales.{ItemSales}
use Rattle.office_reports.specs.Columns.{column, right}
use Rattle.office_reports.specs.Sold.{all_sales, nothing, sales_of}

-- how many positions are in paid, pending, expired and cancelled orders, and what was paid
abbrev pub sales_columns : Sales → List ℕ
sales_columns s = column 7 (decimal s.paid) ++ (column 7 (decimal s.pending) ++ (column 7 (decimal s.expired) ++ (column 7 (decimal s.cancelled) ++ column 14 (cents_text s.amount))))

-- an item's number, what was sold of it, and its name
abbrev pub sales_line : Item → Sales → List ℕ
sales_line item s = right 6 (decimal item.id) ++ (sales_columns s ++ (codes "  " ++ (item.name ++ 10 ∷ [])))

-- the line of what was sold of all items
abbrev pub total_line : Sales → List ℕ
total_line s = codes " total" ++ (sales_columns s ++ 10 ∷ [])

-- two sums in one: counts and amounts added up
abbrev pub with_sales : Sales → Sales → Sales
with_sales a b = record {
  paid = a.paid + b.paid;
  pending = a.pending + b.pending;
  expired = a.expired + b.expired;
  cancelled = a.cancelled + b.cancelled;
  amount = a.amount + b.amount;
}

-- what was sold of all these items together; of none it is nothing
abbrev pub total_of : List ItemSales → Sales
total_of [] = nothing
total_of (r ∷ rs) = with_sales r.sales (total_of rs)

-- each item, by id, and all of them
abbrev pub sales_text : Lists → List ℕ
sales_text lists = concat (map (λ i. sales_line i (sales_of lists i)) lists.catalogue.items) ++ total_line (total_of (all_sales lists))
