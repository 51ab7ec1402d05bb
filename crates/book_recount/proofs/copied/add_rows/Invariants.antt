use Rattle.std.proofs.Common.{◌≡◌, ◌++◌, take, map}
use Rattle.book_recount.proofs.copied.add_rows.Given as goal

abbrev pub invariant-loop-row : goal.invariant-loop-row
invariant-loop-row g l = l.list.items ≡ l.initial.list.items ++ map g.T.Put.change (take l.row-index l.rows)
