use Rattle.std.proofs.Common.{◌≡◌, ◌++◌, drop}
use Rattle.office_reports.specs.ItemLines.{lines_of}
use Rattle.office_reports.proofs.text.append_lines.Given as goal

-- the lines that are left, behind what stands, are all lines behind what stood
abbrev pub invariant-loop-at : goal.invariant-loop-at
invariant-loop-at l = l.text.items ++ lines_of (drop l.at l.items) (drop l.at l.rows) ≡ l.fn.text.items ++ lines_of l.items l.rows
