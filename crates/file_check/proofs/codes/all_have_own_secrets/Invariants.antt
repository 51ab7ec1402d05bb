use Rattle.std.proofs.Common.{◌↔◌, drop}
use Rattle.model_invariant.specs.Secrets.{AllHaveOwnSecrets}
use Rattle.file_check.proofs.codes.all_have_own_secrets.Given as goal

abbrev pub invariant-loop-row : goal.invariant-loop-row
invariant-loop-row l = AllHaveOwnSecrets (drop l.row-index l.rows) ↔ AllHaveOwnSecrets l.rows
