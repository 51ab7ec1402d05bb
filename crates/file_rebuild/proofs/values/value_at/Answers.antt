use Rattle.std.proofs.Common.{Some, sym, ap, ◌∙◌}
use Rattle.std.specs.Prelude.{option_map}
use Rattle.base_tables.proofs.Places.{row_at_place, row_at_gap}
use Rattle.file_rebuild.proofs.values.value_at.Goals as goal

pub returns-in-Ok : goal.returns-in-Ok
returns-in-Ok g c =
    let value_of = g.V.Valued.value_of in
    let row = c.index-rows-at.result in
    ap (λ x. Some x) (c.value.ensures ∙ ap value_of c.index-rows-at.is) ∙ sym (ap (option_map value_of) (row_at_place g.V.Row.key 0 c.args.rows.now c.args.id c.in-Ok.at row c.requires c.in-Ok.ensures.found))

pub returns-in-Err : goal.returns-in-Err
returns-in-Err g c = sym (ap (option_map g.V.Valued.value_of) (row_at_gap g.V.Row.key c.args.rows.now c.args.id c.in-Err._at c.in-Err.ensures.absent))
