use Rattle.std.proofs.Common.{◌≡◌, ◌↔◌, map, drop}
use Rattle.model_rows.specs.CountRows.{voucher_count}
use Rattle.file_check.proofs.counters.are_redeemed.Given as goal

abbrev pub invariant-loop-at : goal.invariant-loop-at
invariant-loop-at g l = let state = g.B.Book.state l.book in (drop l.at l.redeemed ≡ map (voucher_count state) (drop l.at l.vouchers)) ↔ (l.redeemed ≡ map (voucher_count state) l.vouchers)
