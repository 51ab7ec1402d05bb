use Rattle.std.proofs.Common.{◌≡◌, List, ap, ◌∙◌}
use Rattle.std.specs.Prelude.{flat_map}
use Rattle.model_rows.specs.declared.changes.Change.{Change}
use Rattle.model_rows.specs.Change.{after_all}
use Rattle.model_rows.specs.Lists.{State}
use Rattle.book_counts_to_write.specs.Told.{AreOrdered}
use Rattle.book_counts_to_write.specs.Walked.{quotas_by, told_at}
use Rattle.book_counts_to_write.proofs.WalkedRows.{quotas_walked, vouchers_walked, gone_walked, counts_are}
use Rattle.book_counts_to_write.proofs.counts.counts_by_shifts.Goals as goal

pub returns : goal.returns
returns g c =
    let state : State = g.B.Book.state c.args.book.now in
    let changes : List Change = c.args.changes.now.list in
    let ordered : AreOrdered state.lists = c.ids_rise.ensures in
    let put : c.in_ok-put.put ≡ _ = c.in_ok-put.ensures ∙ ap (λ (l : List Change). Rattle.base_tables.specs.Rising.rising (flat_map quotas_by l)) c.as_slice-changes.ensures in
    counts_are state (record { lists = after_all changes state.lists; next = c.args.changes.now.next; moment = c.args.at }) c.new.result c.in_ok-quotas.quotas.items c.as_slice-2.result.now c.in_ok-exits.exits.items c.in_ok-vouchers.vouchers.items c.in_ok-gone.gone.items
    c.new.ensures.quotas c.new.ensures.exits c.new.ensures.vouchers c.new.ensures.gone
    (quotas_walked state changes c.args.changes.now.next c.args.at c.requires.moment c.args.deltas.now ordered c.requires.deltas c.in_ok-quotas.quotas.items c.in_ok-put.put c.in_ok-due.due c.as_slice.result.now put c.in_ok-due.ensures (c.as_slice.ensures ∙ c.in_ok-ids.ensures)
    (c.in_ok-quotas.ensures ∙ ap (λ (l : List Change). flat_map (told_at state l c.args.at c.args.deltas.now.quotas.items) c.as_slice.result.now) c.as_slice-changes.ensures))
    c.as_slice-2.ensures.value c.in_ok-exits.ensures
    (c.in_ok-vouchers.ensures ∙ vouchers_walked state changes c.args.changes.now.next c.args.at c.requires.moment c.args.deltas.now ordered c.requires.deltas)
    (c.in_ok-gone.ensures ∙ gone_walked state changes c.args.changes.now.next c.args.at c.requires.moment c.args.deltas.now ordered c.requires.deltas)
