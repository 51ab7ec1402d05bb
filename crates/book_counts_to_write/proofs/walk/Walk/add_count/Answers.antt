use Rattle.std.proofs.Common.{List, ◌++◌, ap, ◌∙◌}
use Rattle.std.specs.Option.{option_copied}
use Rattle.model_rows.specs.declared.count_rows.QuotaCount.{QuotaCount}
use Rattle.book_tally.specs.declared.deltas.QuotaDelta.{QuotaDelta}
use Rattle.book_tally.specs.CountDeltas.{quota_delta_at}
use Rattle.book_counts_to_write.specs.Told.{told_unless}
use Rattle.book_counts_to_write.proofs.WalkedRows.{told_is}
use Rattle.book_counts_to_write.proofs.walk.Walk.add_count.Goals as goal

pub returns : goal.returns
returns g c =
    let state = g.B.Book.state c.args.self.now.book.now in
    let count : QuotaCount = record { quota = c.args.quota.now.id; usage = c.in_ok-usage.usage } in
    c.in_ok-add_unless.ensures
    ∙ ap (λ b. c.args.rows.now.items ++ told_unless b count) c.same_as.ensures
    ∙ ap (λ (l : List QuotaCount). c.args.rows.now.items ++ l)
    (told_is state c.ids_rise.ensures c.args.self.now.at c.args.self.now.deltas.now.quotas.items c.args.quota.now c.known-known.result.base c.in_ok-usage.usage (option_copied c.shift_of.result) c.known-known.result.had
    c.known-known.ensures.base (c.shift_of.ensures ∙ ap (λ (l : List QuotaDelta). quota_delta_at c.args.quota.now.id l) c.deref.ensures.value) c.in_ok-usage.ensures c.known-known.ensures.had)
