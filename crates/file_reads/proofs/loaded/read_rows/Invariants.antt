use Rattle.std.proofs.Common.{◌≡◌, map, take}
use Rattle.std.specs.List.{All}
use Rattle.file_reads.proofs.loaded.read_rows.Given as goal

abbrev pub invariant-rows : goal.invariant-rows
invariant-rows g l = (map g.T.Loaded.as_row l.all.items ≡ take l.row-index l.rows) × All g.T.Loaded.fits l.all.items
