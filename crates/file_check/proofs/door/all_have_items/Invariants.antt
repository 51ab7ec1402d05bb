use Rattle.std.proofs.Common.{◌↔◌, drop}
use Rattle.std.specs.List.{AllByRecursion}
use Rattle.model_invariant.specs.Checkins.{HasItems}
use Rattle.file_check.proofs.door.all_have_items.Given as goal

abbrev pub invariant-loop-row : goal.invariant-loop-row
invariant-loop-row g l = let items = (g.B.Book.state l.book).lists.catalogue.items in AllByRecursion (HasItems items) (drop l.row-index l.lists) ↔ AllByRecursion (HasItems items) l.lists
