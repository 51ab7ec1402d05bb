use Rattle.std.proofs.Common.{◌≡◌, ◌==◌, ◌&&◌, ◌++◌, drop, filter}
use Rattle.book_recount.proofs.recount.RecountBook.checkins_of.Given as goal

-- the rows so far and those of what is left
abbrev pub invariant-loop-row : goal.invariant-loop-row
invariant-loop-row l = l.rows.items ++ filter (λ row. row.list == l.list && row.position == l.position) (drop l.row-index l.row-items) ≡ filter (λ row. row.list == l.list && row.position == l.position) l.row-items
