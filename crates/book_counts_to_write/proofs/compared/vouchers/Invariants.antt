use Rattle.std.proofs.Common.{◌≡◌, take}
use Rattle.std.specs.Prelude.{flat_map}
use Rattle.book_counts_to_write.specs.Told.{voucher_told}
use Rattle.book_counts_to_write.proofs.compared.vouchers.Given as goal

abbrev pub invariant-loop-voucher : goal.invariant-loop-voucher
invariant-loop-voucher g l = l.rows.items ≡ flat_map (voucher_told (record { before = g.A.Book.state l.before; after = g.C.Book.state l.after })) (take l.voucher-index l.voucher-items)
