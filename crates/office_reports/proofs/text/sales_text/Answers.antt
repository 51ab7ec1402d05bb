use Rattle.std.proofs.Common.{◌≡◌, ◌∙◌, ◌++◌, ℕ, List, ap, ap₂, map}
use Rattle.std.specs.List.{concat}
use Rattle.office_reports.specs.declared.sales.Sales.{Sales}
use Rattle.office_reports.specs.Sold.{all_sales, sales_of}
use Rattle.office_reports.specs.SalesText.{sales_line, total_line, total_of}
use Rattle.office_reports.specs.ItemLines.{lines_of}
use Rattle.office_reports.proofs.Totals.{lines_are}
use Rattle.office_reports.proofs.text.sales_text.Goals as goal

pub returns : goal.returns
returns g c =
    let lists = (g.B.Book.state c.args.book.now).lists in
    let items_are : c.items.result.now ≡ lists.catalogue.items = c.items.ensures ∙ ap (λ l. l.items) c.catalogue.ensures in
    let lines : c.append_lines.new.text.items ≡ concat (map (λ i. sales_line i (sales_of lists i)) lists.catalogue.items) =
    c.in_ok-append_lines.ensures ∙ ap (λ t. t ++ lines_of c.items.result.now c.deref.result.now) c.new-text.ensures.items ∙ ap₂ lines_of items_are (c.deref.ensures.value ∙ c.in_ok-sales.ensures.sales) ∙ lines_are lists lists.catalogue.items in
    let total : c.total.result ≡ total_of (all_sales lists) = c.total.ensures ∙ ap total_of (c.deref-2.ensures.value ∙ c.in_ok-sales.ensures.sales) in
    c.new.ensures ∙ c.in_ok-append_total.ensures ∙ ap₂ (λ (t : List ℕ) (s : Sales). t ++ total_line s) lines total
