use Rattle.std.proofs.Common.{◌≡◌, ◌++◌, take}
use Rattle.std.specs.Prelude.{flat_map}
use Rattle.book_counts_to_write.specs.Due.{quotas_sold}
use Rattle.book_counts_to_write.proofs.due.add_sold_each.Given as goal

abbrev pub invariant-loop-id : goal.invariant-loop-id
invariant-loop-id g l = l.quotas.items ≡ l.initial.quotas.items ++ flat_map (quotas_sold (g.B.Book.state l.book).lists) (take l.id-index l.carts)
