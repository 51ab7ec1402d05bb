use Rattle.std.proofs.Common.{◌≡◌, take}
use Rattle.std.specs.Prelude.{flat_map}
use Rattle.book_counts_to_write.specs.Walked.{gone_told_by}
use Rattle.book_counts_to_write.proofs.walk.Walk.gone.Given as goal

abbrev pub invariant-loop-shift : goal.invariant-loop-shift
invariant-loop-shift g l = l.ids.items ≡ flat_map (gone_told_by (g.B.Book.state l.self.book.now)) (take l.shift-index l.shift-items)
