use Rattle.std.proofs.Common.{◌≡◌, take}
use Rattle.base_index.proofs.found.Found.to_vec.Given as goal

abbrev pub invariant-loop-place : goal.invariant-loop-place
invariant-loop-place l = l.ids.items ≡ take l.place l.self
