use Rattle.std.proofs.Common.{◌≡◌, drop}
use Rattle.std.specs.Option.{option_copied}
use Rattle.book_counts_to_write.specs.Walked.{quota_after}
use Rattle.book_counts_to_write.proofs.walk.quota_after.Given as goal

abbrev pub invariant-loop-change : goal.invariant-loop-change
invariant-loop-change l = quota_after l.id (option_copied l.found) (drop l.change-index l.changes) ≡ quota_after l.id (option_copied l.before) l.changes
