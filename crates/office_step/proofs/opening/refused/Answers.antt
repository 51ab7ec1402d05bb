use Rattle.std.proofs.Common.{◌≡◌, [], ap, ◌∙◌}
use Rattle.model_rows.specs.Lists.{State}
use Rattle.model_rows.specs.Change.{Changed}
use Rattle.office_step.proofs.ForSale.{offered_shifts}
use Rattle.office_step.proofs.opening.refused.Goals as goal

pub returns-clause-deltas : goal.returns-clause-deltas
returns-clause-deltas g c = λ at.
    let state : State = g.B.Book.state c.args.book.now in
    let none : c.plain.result.changes.list ≡ [] = ap (λ (x : Changed). x.list) c.plain.ensures.changes ∙ (c.new-changes.ensures.list ∙ c.new.ensures.items) in
    offered_shifts c.plain.result.changes.list at state.lists c.plain.result.deltas (rw none tt) c.plain.ensures.quotas c.plain.ensures.vouchers
