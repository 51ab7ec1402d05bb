use Rattle.file_check.proofs.Recounts.{quota_stands}
use Rattle.file_check.proofs.counters.are_used.Goals as goal

pub is_quota_count-requires : goal.is_quota_count-requires
is_quota_count-requires g c = record { stands = quota_stands c.catalogue-catalogue.result.now.lists (g.B.Book.state c.args.book.now).lists.catalogue c.quotas-quotas.result.now c.index-quotas-at.result c.loop-at.at c.catalogue-catalogue.ensures c.quotas-quotas.ensures c.recall_invariant.ensures.in_order c.loop-at-test.true c.index-quotas-at.is }
