use Rattle.std.proofs.Common.{◌∙◌}
use Rattle.model_rows.specs.Headroom.{held}
use Rattle.model_rows.specs.Change.{after_change}
use Rattle.model_rows.specs.declared.changes.Change.TheVariants.{PutCart}
use Rattle.std.specs.Prelude.{true, Some}
use Rattle.book_usage.specs.Shares.{held_name}
use Rattle.book_counts_over_time.specs.Redemptions.{turn}
use Rattle.book_counts_over_time.proofs.HoldLemmas.{held_put}
use Rattle.book_counts_over_time.proofs.UsageUpdateLemmas.{same_map}
use Rattle.book_counts_over_time.proofs.holds.hold_put.Goals as goal

pub returns-clause-held : goal.returns-clause-held
returns-clause-held c =
    let lists = c.args.store.now.state.lists in
    let at = c.args.store.now.state.moment in
    let come = rw (c.vouchers.ensures, c.held_name.ensures, c.moment-at.ensures) at c.turn_one.ensures.counts (λ n. held at n lists) in
    let go = rw (c.vouchers-2.ensures, c.held_name-gone.ensures, c.cart.ensures, c.moment-at.ensures) at c.turn_one-2.ensures.counts (turn true (held_name at (Some c.args.row.now)) (λ n. held at n lists)) in
    go (come c.requires) ∙ same_map _ (λ v. held at v.id (after_change (PutCart c.args.row.now) lists)) lists.vouchers (λ v. held_put lists at c.recall_invariant.ensures c.args.row.now v.id)

pub returns-clause-stays : goal.returns-clause-stays
returns-clause-stays c = record { room = c.turn_one-2.ensures.room ∙ c.turn_one.ensures.room; same = c.turn_one-2.ensures.same ∙ c.turn_one.ensures.same }
