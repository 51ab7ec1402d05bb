use Rattle.std.proofs.Common.{◌-◌, length, refl, ap, ◌∙◌, arith}
use Rattle.book_log.proofs.Indexes.{popped, is_counted, with_one_fewer}
use Rattle.book_log.proofs.change_log.ChangeLog.undo.Goals as goal

pub overflow_sub-self : goal.overflow_sub-self
overflow_sub-self c =
    let old = c.self.inside in
    omega (arith, is_counted old.changes.items old.tables old.before.items old.counts (c.len-last.result - 1) c.number-table.result c.index-change.result.now c.self.invariant (omega (arith, c.len-last.ensures, c.requires, ap length c.self.view_is)) c.index-change.ensures (c.number-table.ensures.value ∙ c.table_of.ensures) c.number-table.ensures.within)

pub invariant_of-self : goal.invariant_of-self
invariant_of-self c =
    let old = c.self.inside in
    popped old.changes.items old.tables old.before.items old.counts (c.len-last.result - 1) c.number-table.result c.id_of-id.result c.index-change.result.now c.index.result.now c.index-self-table.result c.go_back.new.self
    c.truncate-2.new.self.items c.truncate.new.self.items (with_one_fewer c.number-table.result old.counts) c.self.invariant (omega (arith, c.len-last.ensures, c.requires, ap length c.self.view_is)) c.index-change.ensures
    (c.number-table.ensures.value ∙ c.table_of.ensures) c.number-table.ensures.within c.id_of-id.ensures c.index.ensures c.go_back.ensures c.truncate-2.ensures.items c.truncate.ensures.items refl
