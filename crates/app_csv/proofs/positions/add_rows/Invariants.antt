use Rattle.std.proofs.Common.{◌≡◌, ◌++◌, drop, map}
use Rattle.std.specs.List.{concat}
use Rattle.app_csv.specs.Handing.{IsReady, gathered_text}
use Rattle.app_csv.specs.PositionLines.{row_line}
use Rattle.app_csv.proofs.positions.add_rows.Given as goal

-- the lines that are left, behind what is gathered, are all lines behind what was
abbrev pub invariant-loop-row : goal.invariant-loop-row
invariant-loop-row l = IsReady l.lines × (gathered_text l.lines ++ concat (map row_line (drop l.row-index l.rows)) ≡ gathered_text l.fn.lines ++ concat (map row_line l.rows))
