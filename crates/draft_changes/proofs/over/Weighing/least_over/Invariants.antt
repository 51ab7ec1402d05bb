use Rattle.model_rows.specs.Over.{is_over}
use Rattle.draft_counts.specs.Logs.{rows_of, rows_at}
use Rattle.draft_changes.specs.Least.{found_at, IsLeast}
use Rattle.draft_changes.proofs.over.Weighing.least_over.Given as goal

-- the least of those that were looked at
abbrev pub invariant-loop-i : goal.invariant-loop-i
invariant-loop-i g l = IsLeast (found_at (λ q. q.id) (is_over (rows_at l.self.count l.self.overlay.now) (rows_of l.self.overlay.now) l.self.at l.self.own.now) l.self.quotas.now) l.self.counts.now l.i l.least
