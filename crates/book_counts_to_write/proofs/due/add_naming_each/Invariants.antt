use Rattle.std.proofs.Common.{◌≡◌, ◌++◌, take}
use Rattle.std.specs.Prelude.{flat_map}
use Rattle.book_counts_to_write.specs.Due.{ids_naming}
use Rattle.book_counts_to_write.proofs.due.add_naming_each.Given as goal

abbrev pub invariant-loop-voucher : goal.invariant-loop-voucher
invariant-loop-voucher g l = l.ids.items ≡ l.initial.ids.items ++ flat_map (ids_naming (g.B.Book.state l.book).lists) (take l.voucher-index l.vouchers)
