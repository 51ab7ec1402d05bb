use Rattle.std.proofs.Common.{◌≡◌, ◌≤◌, ◌*◌, take, sum_by}
use Rattle.model_rows.specs.Usage.{blocked_by}
use Rattle.book_counts_to_write.proofs.recounts.blocked_in.Given as goal

abbrev pub invariant-loop-voucher : goal.invariant-loop-voucher
invariant-loop-voucher g l = record {
  counted : l.blocked ≡ sum_by (blocked_by (g.B.Book.state l.book).lists l.at l.quota) (take l.voucher-index l.voucher-items);
  small : l.blocked ≤ l.voucher-index * 4294967295;
}
