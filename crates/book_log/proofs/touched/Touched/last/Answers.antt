use Rattle.std.proofs.Common.{sym, ap, ◌∙◌, Some}
use Rattle.base_tables.proofs.Places.{row_at_place, row_at_gap}
use Rattle.book_log.specs.Places.{kept_place}
use Rattle.book_log.specs.declared.touched.Touch.{Touch}
use Rattle.book_log.proofs.touched.Touched.last.Goals as goal

pub returns-in-Ok : goal.returns-in-Ok
returns-in-Ok c = rw (← c.self.view_is) (ap (λ (t : Touch). kept_place (Some t)) c.index.ensures ∙ ap kept_place (sym (row_at_place (λ r. r.id) 0 _ c.args.id c.in-Ok.at _ c.self.invariant (rw c.deref.ensures.value at c.in-Ok.ensures.found))))

pub returns-in-Err : goal.returns-in-Err
returns-in-Err c = rw (← c.self.view_is) (ap kept_place (sym (row_at_gap (λ r. r.id) _ _ _ (rw c.deref.ensures.value at c.in-Err.ensures.absent))))
