use Rattle.std.proofs.Common.{◌≡◌, take}
use Rattle.std.specs.Prelude.{flat_map}
use Rattle.book_counts_to_write.specs.Walked.{told_at}
use Rattle.book_counts_to_write.proofs.walk.Walk.quotas.Given as goal

abbrev pub invariant-loop-id : goal.invariant-loop-id
invariant-loop-id g l = l.rows.items ≡ flat_map (told_at (g.B.Book.state l.self.book.now) l.self.changes.now l.self.at l.self.deltas.now.quotas.items) (take l.id-index l.ids)
