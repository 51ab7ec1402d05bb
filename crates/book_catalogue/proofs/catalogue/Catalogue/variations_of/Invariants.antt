use Rattle.std.proofs.Common.{◌≡◌, ◌==◌, ◌++◌, drop, filter}
use Rattle.book_catalogue.proofs.catalogue.Catalogue.variations_of.Given as goal

abbrev pub invariant-loop-row : goal.invariant-loop-row
invariant-loop-row l = l.rows.items ++ filter (λ row. row.item == l.item) (drop l.row-index l.row-items) ≡ filter (λ row. row.item == l.item) l.row-items
