use Rattle.std.proofs.Common.{◌≡◌, ◌++◌, drop}
use Rattle.app_csv.specs.VerdictLines.{verdict_lines}
use Rattle.app_csv.proofs.verdicts.verdict_lines.Given as goal

-- the lines so far, and those of the rows that are left
abbrev pub invariant-loop-verdict : goal.invariant-loop-verdict
invariant-loop-verdict l = (l.at ≡ l.verdict-index) × (l.text.items ++ verdict_lines (drop l.at l.codes) (drop l.verdict-index l.verdicts) ≡ verdict_lines l.codes l.verdicts)
