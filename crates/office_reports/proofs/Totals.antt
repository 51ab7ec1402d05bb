-- Lines one after another, and what was sold of all items.
use Rattle.std.proofs.Common.{◌≡◌, ℕ, ◌+◌, ◌*◌, List, [], ◌∷◌, ◌++◌, drop, map, refl, ap}
use Rattle.std.specs.List.{concat}
use Rattle.model_catalogue.specs.Limits.{most_rows}
use Rattle.model_catalogue.specs.declared.rows.Item.{Item}
use Rattle.model_rows.specs.Lists.{Lists}
use Rattle.office_reports.specs.declared.sales.Sales.{Sales}
use Rattle.office_reports.specs.declared.sales.ItemSales.{ItemSales}
use Rattle.office_reports.specs.Sold.{item_sales, sales_of}
use Rattle.office_reports.specs.Noted.{IsFew}
use Rattle.office_reports.specs.SalesText.{sales_line, total_of, with_sales}
use Rattle.office_reports.specs.ItemLines.{lines_of}

-- the first i rows were added: noting the others leads to the sum of all
abbrev pub Summed : List ItemSales → ℕ → Sales → Type 0
Summed rows i total = record {
  sum : with_sales total (total_of (drop i rows)) ≡ total_of rows;
  few : IsFew (i * most_rows) total;
}

pub lines_are : (lists : Lists) (items : List Item) → lines_of items (map (item_sales lists) items) ≡ concat (map (λ i. sales_line i (sales_of lists i)) items)
lines_are lists [] = refl
lines_are lists (i ∷ is) = ap (λ l. sales_line i (sales_of lists i) ++ l) (lines_are lists is)
