use Rattle.std.proofs.Common.{◌≡◌, map, Ok, take, length}
use Rattle.file_writes.proofs.bound.run_bound.Given as goal

abbrev pub invariant-columns : goal.invariant-columns
invariant-columns g l = (length l.params ≡ 16) × (map Ok (take l.at l.params) ≡ take l.at l.columns)
