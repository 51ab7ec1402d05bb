use Rattle.std.proofs.Common.{◌≡◌, ◌≤◌, length, take}
use Rattle.base_index.proofs.index.shorten.Given as goal

abbrev pub invariant-back : goal.invariant-back
invariant-back l = (l.kept ≤ length l.entries.rows) × (take l.kept l.entries.rows ≡ take l.kept l.initial.entries.rows) × (l.initial.entries.room ≤ l.entries.room)

abbrev pub decreases-back : goal.decreases-back
decreases-back l = length l.entries.rows
