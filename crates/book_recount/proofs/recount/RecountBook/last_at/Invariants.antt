use Rattle.std.proofs.Common.{◌≡◌, drop, filter}
use Rattle.model_rows.specs.Passages.{is_at, last_after, last_at}
use Rattle.book_recount.proofs.recount.RecountBook.last_at.Given as goal

-- with what is left it is the last of all
abbrev pub invariant-loop-row : goal.invariant-loop-row
invariant-loop-row l = last_after l.last (filter (is_at l.position) (drop l.row-index l.row-items)) ≡ last_at l.position l.row-items
