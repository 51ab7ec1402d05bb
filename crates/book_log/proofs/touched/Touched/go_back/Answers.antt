use Rattle.std.proofs.Common.{subst, sym, ap, arith}
use Rattle.base_tables.specs.Tables.{AreInOrder}
use Rattle.base_tables.proofs.Places.{set_is_with_row, with_row_in_order, row_at_gap}
use Rattle.book_log.specs.Places.{kept_place}
use Rattle.book_log.proofs.touched.Touched.go_back.Goals as goal

pub invariant_of-self : goal.invariant_of-self
invariant_of-self c =
    let is = set_is_with_row (λ r. r.id) 0 _ _ c.in-Ok.at c.self.invariant (rw c.deref.ensures.value at c.in-Ok.ensures.found) in
    subst (λ l. AreInOrder (λ r. r.id) l) (sym is) (with_row_in_order (λ r. r.id) 0 _ _ (omega arith) c.self.invariant)

pub returns-in-Ok : goal.returns-in-Ok
returns-in-Ok c =
    rw (← c.self.view_is) (set_is_with_row (λ r. r.id) 0 _ _ c.in-Ok.at c.self.invariant (rw c.deref.ensures.value at c.in-Ok.ensures.found))

pub returns-in_default : goal.returns-in_default
returns-in_default c =
    absurd (c.requires (rw (← c.self.view_is) (ap kept_place (row_at_gap (λ r. r.id) _ _ _ (rw c.deref.ensures.value at c.in_default.ensures.absent)))))
