use Rattle.std.proofs.Common.{◌≡◌, ◌++◌, drop}
use Rattle.office_reports.specs.ItemLines.{door_lines}
use Rattle.office_reports.proofs.doors.append_entries.Given as goal

-- the lines that are left, behind what stands, are all lines behind what stood
abbrev pub invariant-loop-row : goal.invariant-loop-row
invariant-loop-row l = l.text.items ++ door_lines l.catalogue.lists (drop l.row-index l.rows) ≡ l.fn.text.items ++ door_lines l.catalogue.lists l.rows
