use Rattle.std.proofs.Common.{◌≡◌, ◌↔◌, true, drop}
use Rattle.std.specs.List.{AllByRecursion}
use Rattle.model_invariant.specs.OwnCodes.{has_own_code}
use Rattle.file_check.proofs.codes.all_have_own_codes.Given as goal

abbrev pub invariant-loop-row : goal.invariant-loop-row
invariant-loop-row l = AllByRecursion (λ v. has_own_code v ≡ true) (drop l.row-index l.rows) ↔ AllByRecursion (λ v. has_own_code v ≡ true) l.rows
