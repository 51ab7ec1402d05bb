use Rattle.std.proofs.Common.{ℕ, ◌<◌}
use Rattle.app_files.specs.Heads.{HasMarkAt}
use Rattle.app_files.proofs.heads.has_mark.Given as goal

abbrev pub invariant-loop-at : goal.invariant-loop-at
invariant-loop-at l = (k : ℕ) → k < l.at → ¬ (HasMarkAt l.bytes k)
