use Rattle.std.proofs.Common.{◌≡◌, ◌↔◌, true, drop}
use Rattle.std.specs.List.{AllByRecursion}
use Rattle.model_invariant.specs.Checkins.{repeats}
use Rattle.file_check.specs.Firsts.{is_first}
use Rattle.file_check.proofs.nonces.all_are_new.Given as goal

abbrev pub invariant-loop-row : goal.invariant-loop-row
invariant-loop-row g l = let lists = (g.B.Book.state l.book).lists in AllByRecursion (λ c. is_first (λ d. d.id) repeats lists.checkins c ≡ true) (drop l.row-index l.checkins) ↔ AllByRecursion (λ c. is_first (λ d. d.id) repeats lists.checkins c ≡ true) l.checkins
