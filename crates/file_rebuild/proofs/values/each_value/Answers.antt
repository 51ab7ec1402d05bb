use Rattle.std.proofs.Common.{◌++◌, [], ◌∷◌, ap₂, sym, arith, ◌∙◌}
use Rattle.std.specs.Prelude.{option_map}
use Rattle.std.proofs.lemmas.List.{map_more}
use Rattle.base_tables.specs.Tables.{row_at}
use Rattle.file_rebuild.proofs.values.each_value.Goals as goal

pub loop-id-preserved : goal.loop-id-preserved
loop-id-preserved g c =
    c.in_ok-push.ensures.items ∙ ap₂ (λ a x. a ++ x ∷ []) c.loop-id.invariant c.value_at.ensures
    ∙ sym (map_more (λ id. option_map g.V.Valued.value_of (row_at g.V.Row.key id c.args.rows.now)) c.args.ids.now c.loop-id.id-index 0 (omega (arith, c.loop-id-test.true)))
