use Rattle.std.proofs.Common.{◌≡◌, ◌++◌, drop, map}
use Rattle.base_tables.specs.Slots.{rows_in}
use Rattle.base_tables.proofs.sparse.ids_of.Given as goal

-- those so far, and those of the rows that are left, are all
abbrev pub invariant-loop-slot : goal.invariant-loop-slot
invariant-loop-slot g l = l.ids.items ++ map (g.T.Row.key) (rows_in (drop l.slot-index l.slots)) ≡ map (g.T.Row.key) (rows_in l.slots)
