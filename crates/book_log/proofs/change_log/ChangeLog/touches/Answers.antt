use Rattle.std.proofs.Common.{sym, ap, ◌∙◌}
use Rattle.std.specs.Prelude.{nat_lt}
use Rattle.book_log.specs.Places.{is_of, touches_table}
use Rattle.book_log.proofs.TableCounts.{some_counted}
use Rattle.book_log.proofs.change_log.ChangeLog.touches.Goals as goal

pub returns : goal.returns
returns c =
    let log = c.self.inside.changes.items in
    let table = c.number.result in
    rw (← c.self.view_is) (ap (nat_lt 0) (c.self.invariant.counted table c.number.ensures.within) ∙ sym (some_counted (is_of table) log) ∙ ap (λ t. touches_table t log) c.number.ensures.value)
