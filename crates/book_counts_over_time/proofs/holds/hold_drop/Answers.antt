use Rattle.std.proofs.Common.{◌∙◌}
use Rattle.model_rows.specs.Headroom.{held}
use Rattle.model_rows.specs.Change.{after_change}
use Rattle.model_rows.specs.declared.changes.Change.TheVariants.{DropCart}
use Rattle.book_counts_over_time.proofs.HoldLemmas.{held_drop}
use Rattle.book_counts_over_time.proofs.UsageUpdateLemmas.{same_map}
use Rattle.book_counts_over_time.proofs.holds.hold_drop.Goals as goal

pub returns-clause-held : goal.returns-clause-held
returns-clause-held c =
    let lists = c.args.store.now.state.lists in
    let at = c.args.store.now.state.moment in
    let go = rw (c.vouchers.ensures, c.held_name-gone.ensures, c.cart.ensures, c.moment.ensures) at c.turn_one.ensures.counts (λ n. held at n lists) in
    go c.requires ∙ same_map _ (λ v. held at v.id (after_change (DropCart c.args.id) lists)) lists.vouchers (λ v. held_drop lists at c.recall_invariant.ensures c.args.id v.id)
