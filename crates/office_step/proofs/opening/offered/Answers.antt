use Rattle.std.proofs.Common.{sym, subst}
use Rattle.model_rows.specs.Change.{Changed}
use Rattle.office_step.specs.IsStep.{AreOfCatalogue}
use Rattle.office_step.proofs.ForSale.{offered_shifts}
use Rattle.office_step.proofs.opening.offered.Goals as goal

pub returns-clause-deltas : goal.returns-clause-deltas
returns-clause-deltas c = λ at lists.
    offered_shifts c.plain.result.changes.list at lists c.plain.result.deltas (subst (λ (x : Changed). AreOfCatalogue x.list) (sym c.plain.ensures.changes) c.requires) c.plain.ensures.quotas c.plain.ensures.vouchers
