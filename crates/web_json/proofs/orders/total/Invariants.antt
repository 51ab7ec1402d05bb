use Rattle.std.proofs.Common.{◌≡◌, ◌≤◌, ◌*◌, take}
use Rattle.web_json.specs.OrderRows.{order_total}
use Rattle.web_json.proofs.orders.total.Given as goal

abbrev pub invariant-loop-position : goal.invariant-loop-position
invariant-loop-position l = record {
  counted : l.cents ≡ order_total (take l.position-index l.positions);
  small : l.cents ≤ l.position-index * 9999999999;
}
