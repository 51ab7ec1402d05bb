use Rattle.std.proofs.Common.{◌≡◌, ◌==◌, ◌++◌, drop, filter}
use Rattle.book_recount.proofs.recount.RecountBook.positions_of.Given as goal

abbrev pub invariant-loop-row : goal.invariant-loop-row
invariant-loop-row l = l.rows.items ++ filter (λ row. l.order == row.order) (drop l.row-index l.row-items) ≡ filter (λ row. l.order == row.order) l.row-items
