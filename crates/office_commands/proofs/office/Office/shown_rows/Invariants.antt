use Rattle.std.proofs.Common.{◌≡◌, map, take}
use Rattle.office_commands.proofs.office.Office.shown_rows.Given as goal

abbrev pub invariant-loop-row : goal.invariant-loop-row
invariant-loop-row g l = l.shown.items ≡ map (g.R.ShownRow.show l.self.state.lists) (map (λ r. r.now) (take l.row-index l.rows))
