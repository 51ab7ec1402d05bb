use Rattle.std.proofs.Common.{◌≡◌, get_or, length, refl, sym, ◌∙◌, arith}
use Rattle.book_log.specs.Places.{place_in}
use Rattle.book_log.proofs.Indexes.{pushed, counted_le, with_one_more, when_ok}
use Rattle.book_log.proofs.change_log.ChangeLog.push.Goals as goal

pub overflow_add-self : goal.overflow_add-self
overflow_add-self c =
    let old = c.self.inside in
    omega (arith, counted_le old.changes.items old.tables old.before.items old.counts c.number-table.result c.self.invariant c.number-table.ensures.within, old.changes.ok.0, old.changes.ok.1, old.changes.small)

pub invariant_of-self-2 : goal.invariant_of-self-2
invariant_of-self-2 c =
    let old = c.self.inside in
    let row = c.index-self-table.result in
    let place_is : c.len-place.result ≡ length old.changes.items = omega (arith, c.len-place.ensures) in
    let noted = sym c.is_err.ensures.value ∙ c.if-is_err.false in
    let row_is = when_ok _ c.note.result noted c.note.ensures.last in
    let befores_is = when_ok _ c.note.result noted c.note.ensures.earlier in
    pushed old.changes.items old.tables old.before.items old.counts c.args.change c.number-table.result c.id_of-id.result c.len-place.result row row (place_in c.id_of-id.result (get_or old.tables c.number-table.result row))
    c.note.new.touched c.push.new.self.items c.note.new.before.items (with_one_more c.number-table.result old.counts) c.self.invariant (c.number-table.ensures.value ∙ c.table_of.ensures) c.number-table.ensures.within c.id_of-id.ensures
    place_is refl row_is c.in_ok-push.ensures.items befores_is refl
