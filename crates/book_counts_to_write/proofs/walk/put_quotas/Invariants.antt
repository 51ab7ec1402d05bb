use Rattle.std.proofs.Common.{◌≡◌, take}
use Rattle.std.specs.Prelude.{flat_map}
use Rattle.book_counts_to_write.specs.Walked.{quotas_by}
use Rattle.book_counts_to_write.proofs.walk.put_quotas.Given as goal

abbrev pub invariant-loop-change : goal.invariant-loop-change
invariant-loop-change l = l.ids.items ≡ flat_map quotas_by (take l.change-index l.changes)
