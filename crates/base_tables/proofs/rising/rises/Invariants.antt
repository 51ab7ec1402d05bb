use Rattle.std.proofs.Common.{◌↔◌, drop}
use Rattle.base_tables.specs.Tables.{InOrderFrom}
use Rattle.base_tables.proofs.rising.rises.Given as goal

abbrev pub invariant-loop-row : goal.invariant-loop-row
invariant-loop-row g l = InOrderFrom g.T.Row.key l.least (drop l.row-index l.rows) ↔ InOrderFrom g.T.Row.key 0 l.rows
