use Rattle.std.proofs.Common.{◌↔◌, drop}
use Rattle.std.specs.List.{AllByRecursion}
use Rattle.model_invariant.specs.Checkins.{IsCheckedIn}
use Rattle.file_check.proofs.door.all_checked_in.Given as goal

abbrev pub invariant-loop-row : goal.invariant-loop-row
invariant-loop-row g l = let lists = (g.B.Book.state l.book).lists in AllByRecursion (IsCheckedIn lists.checkin_lists lists.positions) (drop l.row-index l.checkins) ↔ AllByRecursion (IsCheckedIn lists.checkin_lists lists.positions) l.checkins
