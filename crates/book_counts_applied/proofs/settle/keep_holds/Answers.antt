use Rattle.book_counts_applied.proofs.Carries.{held_stays}
use Rattle.book_counts_applied.proofs.settle.keep_holds.Goals as goal

pub returns-in_default-clause-held : goal.returns-in_default-clause-held
returns-in_default-clause-held c = let d = c.in_default in held_stays c.args.change.now c.args.store.now.state.lists c.args.store.now.state.moment c.args.holds.now.items d.not-PutVoucher d.not-DropVoucher d.not-PutCart d.not-DropCart c.requires.held
