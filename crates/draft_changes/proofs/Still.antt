-- What is counted stays counted with one more change.
use Rattle.std.proofs.Common.{◌≡◌, ℕ, zero, suc, ◌+◌, ◌≤◌, List, [], ◌∷◌, ◌++◌, sym, ap, ◌∙◌, arith}
use Rattle.model_catalogue.specs.declared.rows.Quota.{Quota}
use Rattle.model_rows.specs.declared.changes.Change.{Change}
use Rattle.model_rows.specs.declared.rows.Usage.{Usage}
use Rattle.model_rows.specs.Change.{after_change}
use Rattle.model_rows.specs.Kept.{IsKept}
use Rattle.model_rows.specs.Lists.{Lists}
use Rattle.model_rows.specs.Total.{total}
use Rattle.model_rows.specs.Usage.{usage_of}
use Rattle.model_rows.proofs.Exits.{exited_are_paid}
use Rattle.draft_counts.specs.Logs.{Log, rows_of, IsSale}
use Rattle.draft_counts.proofs.Logs.{after_all-push}
use Rattle.book_tally.specs.declared.amount.Uses.{Uses}
use Rattle.book_tally.specs.declared.tally.Count.{Count}
use Rattle.book_tally.specs.Amounts.{nothing, plus, no_uses, plus_uses}
use Rattle.book_tally.specs.Counts.{came, went}
use Rattle.book_tally.proofs.AmountLemmas.{stepped, stepped_uses, total_both}
use Rattle.draft_counts.specs.Counts.{value_at, IsMore, AreMoreUses}
use Rattle.draft_counts.specs.CountDelta.{come_of, gone_of}
use Rattle.draft_counts.specs.Uses.{uses_of, use_come, use_gone}
use Rattle.draft_counts.proofs.Values.{values_add, value_of}
use Rattle.draft_counts.proofs.UseShifts.{use_step}
use Rattle.draft_changes.specs.CanCome.{CanCome}
use Rattle.draft_changes.specs.DraftState.{IsCounted, IsTotalled, AreKept}
use Rattle.draft_changes.specs.Used.{places_used, usage_raised}
use Rattle.draft_changes.proofs.CountDeltas.{one_step}

-- of each quota those who have gone out are among the paid ones
within_at : (lists : Lists) (at : ℕ) (quotas : List Quota) (place : ℕ) → (value_at nothing (usage_of lists at) quotas place).exited ≤ (value_at nothing (usage_of lists at) quotas place).paid
within_at lists at [] place = omega arith
within_at lists at (q ∷ qs) zero = exited_are_paid lists q at
within_at lists at (q ∷ qs) (suc place) = within_at lists at qs place

-- where each count is right, so are all of them together
pub totalled : (at : ℕ) (log : Log) (counts : List (Count Usage)) → IsCounted at log counts → IsTotalled at log counts
unfolding places_used
totalled at log counts counted place =
    let quotas = log.base.catalogue.quotas in
    ap (λ n. n + usage_raised (went nothing place counts) (came nothing place counts)) (value_of nothing total (usage_of (rows_of log) at) quotas place)
    ∙ total_both (value_at nothing (usage_of (rows_of log) at) quotas place) (value_at nothing (usage_of log.base at) quotas place) (went nothing place counts) (came nothing place counts) (within_at (rows_of log) at quotas place) (within_at log.base at quotas place) (counted place)
    ∙ sym (ap (λ n. n + usage_raised (came nothing place counts) (went nothing place counts)) (value_of nothing total (usage_of log.base at) quotas place))

module _ (at : ℕ) (log : Log) (change : Change) where
  abbrev after : Log
  after = record log { changes = log.changes ++ change ∷ [] }

  pushed : rows_of after ≡ after_change change (rows_of log)
  pushed = after_all-push log.changes change log.base

  pub counted_more : (old new : List (Count Usage)) (limit : ℕ) → IsKept limit (rows_of log) → CanCome at log change → IsCounted at log old → IsMore (come_of (rows_of log) at change) (gone_of (rows_of log) at change) log.base.catalogue.quotas old new → IsCounted at after new
  counted_more old new limit kept can counted more place =
      let quotas = log.base.catalogue.quotas in
      let value = λ (lists : Lists). value_at nothing (usage_of lists at) quotas place in
      let step = values_add nothing plus (usage_of (after_change change (rows_of log)) at) (gone_of (rows_of log) at change) (usage_of (rows_of log) at) (come_of (rows_of log) at change) quotas place (one_step log at limit kept change can) in
      let now_is : plus (value (after_change change (rows_of log))) (went nothing place new) ≡ plus (value log.base) (came nothing place new) =
      ap (plus (value (after_change change (rows_of log)))) (more.goes place)
      ∙ stepped (value log.base) (value (rows_of log)) (value (after_change change (rows_of log))) (came nothing place old) (went nothing place old) (value_at nothing (come_of (rows_of log) at change) quotas place) (value_at nothing (gone_of (rows_of log) at change) quotas place) (counted place) step
      ∙ ap (plus (value log.base)) (sym (more.comes place)) in
      ap (λ (lists : Lists). plus (value lists) (went nothing place new)) pushed ∙ now_is

  pub kept_more : (old new : List (Count Uses)) (limit : ℕ) → IsKept limit (rows_of log) → IsSale change (rows_of log) → AreKept at log old → AreMoreUses (use_come (rows_of log) at change) (use_gone (rows_of log) at change) old new → AreKept at after new
  kept_more old new limit kept sale are more v =
      let later = after_change change (rows_of log) in
      ap (λ (lists : Lists). plus_uses (uses_of at lists v) (went no_uses v new)) pushed
      ∙ ap (plus_uses (uses_of at later v)) (more.goes v)
      ∙ stepped_uses (uses_of at log.base v) (uses_of at (rows_of log) v) (uses_of at later v) (came no_uses v old) (went no_uses v old) (use_come (rows_of log) at change v) (use_gone (rows_of log) at change v) (are v) (use_step (rows_of log) at limit kept change sale v)
      ∙ ap (plus_uses (uses_of at log.base v)) (sym (more.comes v))
