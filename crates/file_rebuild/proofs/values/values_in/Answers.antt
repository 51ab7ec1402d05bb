use Rattle.std.proofs.Common.{IsTrue, ◌∙◌}
use Rattle.file_rebuild.proofs.Amounts.{values_whole}
use Rattle.file_rebuild.proofs.values.values_in.Goals as goal

pub returns-clause-whole : goal.returns-clause-whole
returns-clause-whole g c = values_whole g.V.Row.key g.V.Valued.value_of c.args.ids.now c.args.rows.now c.as_slice.result.now (IsTrue c.are_so_many-whole.result) c.requires.ids c.requires.rows (c.as_slice.ensures.value ∙ c.in_ok-each.ensures) c.are_so_many-whole.ensures
