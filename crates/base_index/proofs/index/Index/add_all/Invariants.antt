use Rattle.std.proofs.Common.{◌≡◌, ◌≤◌, ◌+◌, drop}
use Rattle.base_index.specs.Entries.{with_entries}
use Rattle.base_index.proofs.index.Index.add_all.Given as goal

abbrev pub invariant-loop-key : goal.invariant-loop-key
invariant-loop-key l = (with_entries (drop l.key-index l.keys) l.id l.self.rows ≡ with_entries l.keys l.id l.initial.self.rows) × (l.initial.self.room ≤ l.self.room + l.key-index)
