use Rattle.std.proofs.Common.{subst, sym, ◌∙◌}
use Rattle.base_tables.specs.Tables.{AreInOrder}
use Rattle.base_tables.proofs.Places.{remove_is_without_row, without_gap, without_row_in_order}
use Rattle.base_index.proofs.index.Index.delete.Goals as goal

pub invariant_of-self : goal.invariant_of-self
invariant_of-self c =
    let is = c.remove.ensures.rows ∙ remove_is_without_row (λ n. n) 0 _ c.args.entry c.in-Ok.at c.self.invariant c.in-Ok.ensures.found in
    subst (λ l. AreInOrder (λ n. n) l) (sym is) (without_row_in_order (λ n. n) 0 c.args.entry _ c.self.invariant)

pub returns-in-Ok-clause-rows : goal.returns-in-Ok-clause-rows
returns-in-Ok-clause-rows c =
    rw (← c.self.view_is) (c.remove.ensures.rows ∙ remove_is_without_row (λ n. n) 0 _ c.args.entry c.in-Ok.at c.self.invariant c.in-Ok.ensures.found)

pub returns-in_default-clause-rows : goal.returns-in_default-clause-rows
returns-in_default-clause-rows c = rw (← c.self.view_is) (sym (without_gap (λ n. n) _ c.args.entry _ c.in_default.ensures.absent))
