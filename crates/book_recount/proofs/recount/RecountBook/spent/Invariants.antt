use Rattle.std.proofs.Common.{◌≡◌, ◌≤◌, ◌*◌, take, sum_by}
use Rattle.model_rows.specs.Usage.{spends}
use Rattle.book_recount.proofs.recount.RecountBook.spent.Given as goal

-- what the positions that were reached spend, no more than 9,999,999,999 cents each
abbrev pub invariant-loop-position : goal.invariant-loop-position
invariant-loop-position l = record {
  counted : l.cents ≡ sum_by (spends l.voucher l.self.state.lists) (take l.position-index l.position-items);
  small : l.cents ≤ l.position-index * 9999999999;
}
