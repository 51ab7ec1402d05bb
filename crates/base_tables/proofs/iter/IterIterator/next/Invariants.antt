use Rattle.std.proofs.Common.{◌≡◌, length}
use Rattle.base_tables.specs.Slots.{rows_in}
use Rattle.base_tables.proofs.iter.IterIterator.next.Given as goal

-- the places before those that are left have no row
abbrev pub invariant-loop-slot : goal.invariant-loop-slot
invariant-loop-slot g l = rows_in l.self-inside.slots.now ≡ rows_in l.initial.self-inside.slots.now

abbrev pub decreases-loop-slot : goal.decreases-loop-slot
decreases-loop-slot g l = length l.self-inside.slots.now
