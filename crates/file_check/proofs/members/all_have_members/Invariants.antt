use Rattle.std.proofs.Common.{◌↔◌, drop}
use Rattle.std.specs.List.{AllByRecursion}
use Rattle.model_invariant.specs.Members.{HasMembers}
use Rattle.file_check.proofs.members.all_have_members.Given as goal

abbrev pub invariant-loop-quota : goal.invariant-loop-quota
invariant-loop-quota g l = let catalogue = (g.B.Book.state l.book).lists.catalogue in AllByRecursion (HasMembers catalogue) (drop l.quota-index l.quotas) ↔ AllByRecursion (HasMembers catalogue) l.quotas
