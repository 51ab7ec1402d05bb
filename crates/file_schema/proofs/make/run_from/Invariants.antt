use Rattle.std.proofs.Common.{List}
use Rattle.sqlite_schema.specs.declared.schema.Table.{Table}
use Rattle.sqlite.specs.Held.{state}
use Rattle.sqlite.specs.State.{HasCleanDisk}
use Rattle.file_schema.specs.Inside.{StaysInside}
use Rattle.file_schema.specs.Versions.{schema_after}
use Rattle.file_schema.specs.Grown.{IsInsideOver}
use Rattle.file_schema.proofs.Grown.{GrowsBy}
use Rattle.file_schema.proofs.make.run_from.Given as goal

abbrev pub invariant-statements : goal.invariant-statements
invariant-statements g l =
    let old = state g.S.Store l.fn.tx.conn.now in
    let now = state g.S.Store l.tx.conn.now in
    StaysInside g.S.Store l.fn.tx.conn l.tx.conn × (HasCleanDisk now → IsInsideOver (schema_after l.from) old → (more : List Table) × GrowsBy more (schema_after l.from) (schema_after l.at) old now)
