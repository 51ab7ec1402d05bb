use Rattle.std.proofs.Common.{◌≡◌, ◌↔◌, drop, length}
use Rattle.std.specs.List.{flat_map}
use Rattle.file_rebuild.proofs.members.are_so_many.Given as goal

abbrev pub invariant-loop-ids : goal.invariant-loop-ids
invariant-loop-ids l = (length (flat_map (λ m. m) (drop l.ids-index l.each)) ≡ l.left) ↔ (length (flat_map (λ m. m) l.each) ≡ l.count)
