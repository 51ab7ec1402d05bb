use Rattle.std.proofs.Common.{◌≡◌, ◌+◌, ◌*◌, ◌≤◌, drop}
use Rattle.model_rows.specs.Budgets.{named_discounts}
use Rattle.decide_orders.proofs.budgets.named_discounts.Given as goal

-- what was added up, and what is left
abbrev pub invariant-loop-row : goal.invariant-loop-row
invariant-loop-row l = record {
  rest : l.cents + named_discounts l.voucher (drop l.row-index l.rows) ≡ named_discounts l.voucher l.rows;
  few : l.cents ≤ l.row-index * 9999999999;
}
