use Rattle.std.proofs.Common.{◌≡◌, ◌++◌, map}
use Rattle.std.specs.Prelude.{filter}
use Rattle.model_rows.specs.Usage.{has_none}
use Rattle.book_recount.proofs.recount.RecountBook.waiters.Given as goal

-- those so far, and those that wait among the rows that are left, are all
abbrev pub invariant-loop-row : goal.invariant-loop-row
invariant-loop-row l = l.ids.items ++ map (λ e. e.id) (filter (λ e. has_none e.voucher) l.row-iterator) ≡ map (λ e. e.id) (filter (λ e. has_none e.voucher) l.self.state.lists.waiting)
