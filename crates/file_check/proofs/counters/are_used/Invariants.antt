use Rattle.std.proofs.Common.{◌≡◌, ◌↔◌, map, drop}
use Rattle.model_rows.specs.CountRows.{quota_count}
use Rattle.file_check.proofs.counters.are_used.Given as goal

abbrev pub invariant-loop-at : goal.invariant-loop-at
invariant-loop-at g l = let state = g.B.Book.state l.book in (drop l.at l.used ≡ map (quota_count state) (drop l.at l.quotas)) ↔ (l.used ≡ map (quota_count state) l.quotas)
