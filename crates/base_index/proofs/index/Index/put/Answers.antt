use Rattle.std.proofs.Common.{subst, sym, ◌∙◌, arith}
use Rattle.base_tables.specs.Tables.{AreInOrder}
use Rattle.base_tables.proofs.Places.{set_is_with_row, insert_is_with_row, with_row_in_order}
use Rattle.base_index.proofs.index.Index.put.Goals as goal

pub invariant_of-self : goal.invariant_of-self
invariant_of-self c =
    let is = c.set.ensures.rows ∙ set_is_with_row (λ n. n) 0 _ c.args.entry c.in-Ok.at c.self.invariant c.in-Ok.ensures.found in
    subst (λ l. AreInOrder (λ n. n) l) (sym is) (with_row_in_order (λ n. n) 0 c.args.entry _ (omega arith) c.self.invariant)

pub invariant_of-self-in-Err : goal.invariant_of-self-in-Err
invariant_of-self-in-Err c =
    let is = c.insert.ensures.rows ∙ insert_is_with_row (λ n. n) _ c.args.entry c.in-Err.at c.in-Err.ensures.absent in
    subst (λ l. AreInOrder (λ n. n) l) (sym is) (with_row_in_order (λ n. n) 0 c.args.entry _ (omega arith) c.self.invariant)

pub returns-in-Ok-clause-rows : goal.returns-in-Ok-clause-rows
returns-in-Ok-clause-rows c =
    rw (← c.self.view_is) (c.set.ensures.rows ∙ set_is_with_row (λ n. n) 0 _ c.args.entry c.in-Ok.at c.self.invariant c.in-Ok.ensures.found)

pub returns-in-Err-clause-rows : goal.returns-in-Err-clause-rows
returns-in-Err-clause-rows c =
    rw (← c.self.view_is) (c.insert.ensures.rows ∙ insert_is_with_row (λ n. n) _ c.args.entry c.in-Err.at c.in-Err.ensures.absent)
