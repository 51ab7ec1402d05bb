-- The counts of an office, a row for each quota and voucher, and which are written where one office follows another: new ones, those that differ, and
-- vouchers that are gone.
use Rattle.std.specs.Prelude.{ℕ, Bool, not, ◌&&◌, ◌==◌, is_none, List, map, filter}
use Rattle.std.specs.List.{list_any}
use Rattle.base_tables.specs.Tables.{row_at}
use Rattle.model_catalogue.specs.declared.rows.Quota.{Quota}
use Rattle.model_rows.specs.declared.rows.Usage.{Usage}
use Rattle.model_rows.specs.declared.rows.Voucher.{Voucher}
use Rattle.model_rows.specs.declared.count_rows.QuotaCount.{QuotaCount}
use Rattle.model_rows.specs.declared.count_rows.VoucherCount.{VoucherCount}
use Rattle.model_rows.specs.Lists.{State, voucher_at}
use Rattle.model_rows.specs.Usage.{usage_of, redeemed, spent}

-- what uses a quota now
abbrev pub quota_count : State → Quota → QuotaCount
quota_count state quota = record { quota = quota.id; usage = usage_of state.lists state.moment quota }

-- how often a voucher is redeemed, and what is spent of its budget
abbrev pub voucher_count : State → Voucher → VoucherCount
voucher_count state voucher = record { voucher = voucher.id; redeemed = redeemed voucher.id state.lists; spent = spent voucher.id state.lists }

-- that of each quota, in order
abbrev pub quota_counts : State → List QuotaCount
quota_counts state = map (quota_count state) state.lists.catalogue.quotas

-- that of each voucher, in order
abbrev pub voucher_counts : State → List VoucherCount
voucher_counts state = map (voucher_count state) state.lists.vouchers

-- whether two usages are alike in all six counts
abbrev pub same_usage : Usage → Usage → Bool
same_usage a b = a.paid == b.paid && (a.pending == b.pending && (a.blocked == b.blocked && (a.carts == b.carts && (a.waiting == b.waiting && a.exited == b.exited))))

-- whether two counts are of one quota, and alike
abbrev pub same_quota_count : QuotaCount → QuotaCount → Bool
same_quota_count a b = a.quota == b.quota && same_usage a.usage b.usage

-- whether two counts are of one quota, and as many of its tickets are out
abbrev pub same_exits : QuotaCount → QuotaCount → Bool
same_exits a b = a.quota == b.quota && a.usage.exited == b.usage.exited

-- whether two counts are of one voucher, and alike
abbrev pub same_voucher_count : VoucherCount → VoucherCount → Bool
same_voucher_count a b = a.voucher == b.voucher && (a.redeemed == b.redeemed && a.spent == b.spent)

-- the counts that are to be written where an office comes after another one: those of the quotas and vouchers that are new,
-- or whose counts differ; of these quotas those that differ in how many tickets are out; and the vouchers that are gone
pub record CountRows : Type 0 where
  pub quotas : List QuotaCount
  pub exits : List QuotaCount
  pub vouchers : List VoucherCount
  pub gone : List ℕ

-- the counts of the quotas that are new, or whose counts differ
abbrev pub quotas_after : State → State → List QuotaCount
quotas_after before after = filter (λ c. not (list_any (same_quota_count c) (quota_counts before))) (quota_counts after)

-- of these counts those that differ from what the office has in how many tickets are out, or whose quota it hasn't
abbrev pub exits_after : State → List QuotaCount → List QuotaCount
exits_after before counts = filter (λ c. not (list_any (same_exits c) (quota_counts before))) counts

-- the counts that differ where the one office comes before the other
abbrev pub counts_after : State → State → CountRows
counts_after before after = record {
  quotas = quotas_after before after;
  exits = exits_after before (quotas_after before after);
  vouchers = filter (λ c. not (list_any (same_voucher_count c) (voucher_counts before))) (voucher_counts after);
  gone = filter (λ id. is_none (voucher_at id after.lists)) (map (λ v. v.id) before.lists.vouchers);
}
