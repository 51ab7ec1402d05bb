use Rattle.std.proofs.Common.{sym}
use Rattle.base_tables.proofs.Places.{row_at_place, row_at_gap}
use Rattle.book_tally.specs.declared.deltas.QuotaDelta.{QuotaDelta}
use Rattle.book_counts_to_write.proofs.walk.shift_of.Goals as goal

pub returns-in-Ok : goal.returns-in-Ok
returns-in-Ok c = sym (row_at_place (λ (s : QuotaDelta). s.quota) 0 c.args.deltas.now c.args.quota c.in-Ok.place _ c.requires c.in-Ok.ensures.found)

pub returns-in-Err : goal.returns-in-Err
returns-in-Err c = sym (row_at_gap (λ (s : QuotaDelta). s.quota) c.args.deltas.now c.args.quota _ c.in-Err.ensures.absent)
