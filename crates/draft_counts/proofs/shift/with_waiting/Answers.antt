use Rattle.std.proofs.Common.{true, ap, ◌∙◌}
use Rattle.std.proofs.lemmas.Result.{on_ok_weaker}
use Rattle.book_usage.specs.Shares.{waiting_share}
use Rattle.draft_counts.specs.CountDelta.{usage_of_places}
use Rattle.draft_counts.proofs.Values.{more_same}
use Rattle.draft_counts.proofs.shift.with_waiting.Goals as goal

pub returns-clause-more : goal.returns-clause-more
returns-clause-more g c =
    on_ok_weaker c.count_each.result (more_same _ _ _ _ c.args.count_base.now.catalogue.now.lists.quotas c.args.counts.now c.count_each.new.counts (λ q. ap (usage_of_places true) (c.waiting_spot-come.ensures q)) (λ q. ap (usage_of_places true) (c.waiting_spot-gone.ensures q ∙ ap (waiting_share q) c.entry.ensures))) c.count_each.ensures.more
