use Rattle.std.proofs.Common.{sym, subst}
use Rattle.model_rows.specs.declared.changes.Change.{Change}
use Rattle.model_rows.specs.Change.{after_change}
use Rattle.book_counts_applied.specs.Settled.{AreSmall}
use Rattle.book_counts_applied.proofs.Carries.{small_stays, small_put, small_drop, small_position}
use Rattle.book_counts_applied.proofs.settle.stay_small.Goals as goal

pub returns-in-PutVoucher : goal.returns-in-PutVoucher
returns-in-PutVoucher c = subst (λ (change : Change). AreSmall (after_change change c.args.store.now.state.lists)) (sym c.in-PutVoucher.is) (small_put c.in-PutVoucher.row c.args.store.now.state.lists c.few_uses.ensures c.requires)

pub returns-in-DropVoucher : goal.returns-in-DropVoucher
returns-in-DropVoucher c = subst (λ (change : Change). AreSmall (after_change change c.args.store.now.state.lists)) (sym c.in-DropVoucher.is) (small_drop c.in-DropVoucher.field-0 c.args.store.now.state.lists c.requires)

pub returns-in-PutPosition : goal.returns-in-PutPosition
returns-in-PutPosition c = subst (λ (change : Change). AreSmall (after_change change c.args.store.now.state.lists)) (sym c.in-PutPosition.is) (small_position c.in-PutPosition.row c.args.store.now.state.lists c.few_cents.ensures c.requires)

pub returns-in_default : goal.returns-in_default
returns-in_default c = small_stays c.args.change.now c.args.store.now.state.lists c.in_default.not-PutVoucher c.in_default.not-DropVoucher c.in_default.not-PutPosition c.requires
