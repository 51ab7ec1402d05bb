use Rattle.std.proofs.Common.{◌≡◌, map, take}
use Rattle.std.specs.Prelude.{option_map}
use Rattle.base_tables.specs.Tables.{row_at}
use Rattle.file_rebuild.proofs.values.each_value.Given as goal

abbrev pub invariant-loop-id : goal.invariant-loop-id
invariant-loop-id g l = l.all.items ≡ map (λ id. option_map g.V.Valued.value_of (row_at g.V.Row.key id l.rows)) (take l.id-index l.ids)
