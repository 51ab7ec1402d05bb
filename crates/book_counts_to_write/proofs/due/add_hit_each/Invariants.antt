use Rattle.std.proofs.Common.{◌≡◌, ◌++◌, take}
use Rattle.std.specs.Prelude.{flat_map}
use Rattle.book_counts_to_write.specs.Due.{quotas_hit}
use Rattle.book_counts_to_write.proofs.due.add_hit_each.Given as goal

abbrev pub invariant-loop-id : goal.invariant-loop-id
invariant-loop-id g l = l.quotas.items ≡ l.initial.quotas.items ++ flat_map (quotas_hit (g.B.Book.state l.book).lists) (take l.id-index l.vouchers)
