use Rattle.std.proofs.Common.{◌≡◌, ◌≤◌, ◌++◌, length, take, drop}
use Rattle.base_index.specs.Entries.{without_id}
use Rattle.base_index.proofs.index.move_up.Given as goal

abbrev pub invariant-loop-at : goal.invariant-loop-at
invariant-loop-at l = (take l.kept l.entries.rows ++ without_id l.id (drop l.at l.entries.rows) ≡ without_id l.id l.initial.entries.rows) × (l.kept ≤ l.at) × (length l.entries.rows ≡ length l.initial.entries.rows) × (l.entries.room ≡ l.initial.entries.room)
