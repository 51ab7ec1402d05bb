use Rattle.std.proofs.Common.{◌++◌, [], ◌∷◌, append-nil, sym, ap, ◌∙◌, arith}
use Rattle.model_catalogue.specs.declared.rows.Quota.{Quota}
use Rattle.draft_changes.proofs.HandedLemmas.{past_end, told_at}
use Rattle.draft_changes.proofs.finish.add_quota.Goals as goal

pub returns-then-quotas-index : goal.returns-then-quotas-index
returns-then-quotas-index c = sym (ap (λ l. c.args.rows.now.items ++ l) (past_end [] _ c.args.quotas.now c.args.place (omega arith)) ∙ append-nil c.args.rows.now.items)

pub returns : goal.returns
returns c =
    c.in_ok-push.ensures.items
    ∙ ap (λ (q : Quota). c.args.rows.now.items ++ record { quota = q.id; come = c.of-count.result.come; gone = c.of-count.result.gone } ∷ []) (sym c.index-quotas-index.is)
    ∙ ap (λ l. c.args.rows.now.items ++ l) (told_at c.args.quotas.now c.args.counts.now c.args.place c.index-quotas-index.result c.of-count.result.come c.of-count.result.gone (omega arith) c.index-quotas-index.is c.of-count.ensures.come c.of-count.ensures.gone)
