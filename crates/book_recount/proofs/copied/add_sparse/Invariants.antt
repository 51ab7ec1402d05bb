use Rattle.std.proofs.Common.{◌≡◌, ◌++◌, map}
use Rattle.book_recount.proofs.copied.add_sparse.Given as goal

abbrev pub invariant-loop-row : goal.invariant-loop-row
invariant-loop-row g l = l.list.items ++ map g.T.Put.change l.row-iterator ≡ l.initial.list.items ++ map g.T.Put.change l.rows.rows
