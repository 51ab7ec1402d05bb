use Rattle.std.proofs.Common.{◌↔◌, drop}
use Rattle.std.specs.List.{AllByRecursion}
use Rattle.file_check.specs.Room.{HasRoom}
use Rattle.file_check.proofs.headroom.all_have_room.Given as goal

abbrev pub invariant-loop-row : goal.invariant-loop-row
invariant-loop-row g l = let state = g.B.Book.state l.book in AllByRecursion (HasRoom state) (drop l.row-index l.vouchers) ↔ AllByRecursion (HasRoom state) l.vouchers
