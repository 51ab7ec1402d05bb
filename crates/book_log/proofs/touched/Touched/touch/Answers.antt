use Rattle.std.proofs.Common.{subst, sym, ◌∙◌, arith}
use Rattle.base_tables.specs.Tables.{AreInOrder}
use Rattle.base_tables.proofs.Places.{set_is_with_row, insert_is_with_row, with_row_in_order}
use Rattle.book_log.proofs.touched.Touched.touch.Goals as goal

pub invariant_of-self : goal.invariant_of-self
invariant_of-self c =
    let is = set_is_with_row (λ r. r.id) 0 _ _ c.in-Ok.at c.self.invariant (rw c.deref.ensures.value at c.in-Ok.ensures.found) in
    subst (λ l. AreInOrder (λ r. r.id) l) (sym is) (with_row_in_order (λ r. r.id) 0 _ _ (omega arith) c.self.invariant)

pub invariant_of-self-in-Err : goal.invariant_of-self-in-Err
invariant_of-self-in-Err c =
    let is = c.in_ok-insert-in-Err.ensures.items ∙ insert_is_with_row (λ r. r.id) _ _ c.in-Err.at (rw c.deref.ensures.value at c.in-Err.ensures.absent) in
    subst (λ l. AreInOrder (λ r. r.id) l) (sym is) (with_row_in_order (λ r. r.id) 0 _ _ (omega arith) c.self.invariant)

pub returns-in-Ok-clause-ok : goal.returns-in-Ok-clause-ok
returns-in-Ok-clause-ok c =
    rw (← c.self.view_is) (set_is_with_row (λ r. r.id) 0 _ _ c.in-Ok.at c.self.invariant (rw c.deref.ensures.value at c.in-Ok.ensures.found))

pub returns-in_ok-insert-in-Err-clause-ok : goal.returns-in_ok-insert-in-Err-clause-ok
returns-in_ok-insert-in-Err-clause-ok c =
    rw (← c.self.view_is) (c.in_ok-insert-in-Err.ensures.items ∙ insert_is_with_row (λ r. r.id) _ _ c.in-Err.at (rw c.deref.ensures.value at c.in-Err.ensures.absent))
