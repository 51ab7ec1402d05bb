use Rattle.std.proofs.Common.{false, ap, ◌∙◌}
use Rattle.std.proofs.lemmas.Result.{on_ok_weaker}
use Rattle.draft_overlay.specs.Logs.{rows_of}
use Rattle.book_usage.specs.Shares.{cart_share}
use Rattle.draft_counts.specs.CountDelta.{usage_of_places}
use Rattle.draft_counts.proofs.Values.{more_same}
use Rattle.draft_counts.proofs.shift.with_cart.Goals as goal

pub returns-clause-more : goal.returns-clause-more
returns-clause-more g c =
    let lists = rows_of c.args.count_base.now.overlay.now in
    on_ok_weaker c.count_each.result (more_same _ _ _ _ c.args.count_base.now.catalogue.now.lists.quotas c.args.counts.now c.count_each.new.counts (λ q. ap (usage_of_places false) (c.cart_spot-come.ensures q)) (λ q. ap (usage_of_places false) (c.cart_spot-gone.ensures q ∙ ap (cart_share lists c.args.count_base.now.at q) c.cart.ensures))) c.count_each.ensures.more
