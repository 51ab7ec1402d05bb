-- Which counts are told by what changes shift.
use Rattle.std.specs.Prelude.{ℕ, ◌+◌, ◌-◌, ◌==◌, ◌&&◌, not, Bool, false, List, [], ◌∷◌, if◌then◌else◌, is_some, Option, Some, None}
use Rattle.std.specs.Coded.{×_prop, Unit-prop, le_prop}
use Rattle.base_tables.specs.Tables.{InOrderFrom}
use Rattle.model_catalogue.specs.declared.rows.Quota.{Quota}
use Rattle.model_catalogue.specs.CatalogueLists.{quota_at}
use Rattle.model_rows.specs.declared.changes.Change.{Change}
use Rattle.model_rows.specs.declared.changes.Change.TheVariants.{PutQuota}
use Rattle.model_rows.specs.declared.rows.Usage.{Usage}
use Rattle.model_rows.specs.declared.count_rows.QuotaCount.{QuotaCount}
use Rattle.model_rows.specs.declared.count_rows.VoucherCount.{VoucherCount}
use Rattle.model_rows.specs.Change.{after_all}
use Rattle.model_rows.specs.CountRows.{same_usage}
use Rattle.model_rows.specs.Lists.{State, voucher_at}
use Rattle.model_rows.specs.Usage.{usage_of, redeemed, spent}
use Rattle.book_tally.specs.declared.deltas.QuotaDelta.{QuotaDelta}
use Rattle.book_tally.specs.declared.deltas.VoucherDelta.{VoucherDelta}
use Rattle.book_tally.specs.Amounts.{plus}
use Rattle.book_tally.specs.CountDeltas.{come_by, gone_by, quota_delta_at}
use Rattle.book_counts_to_write.specs.Told.{has_count, has_voucher, told_if, told_unless}

-- the quota that a change puts
abbrev pub quotas_by : Change → List ℕ
quotas_by (PutQuota row) = row.id ∷ []
quotas_by _ = []

-- the quota of an id after one change, by the one before it
abbrev pub quota_with : ℕ → Change → Option Quota → Option Quota
quota_with id (PutQuota row) before = if row.id == id then Some row else before
quota_with id _ before = before

-- and after all of them
abbrev pub quota_after : ℕ → Option Quota → List Change → Option Quota
quota_after id before [] = before
quota_after id before (change ∷ changes) = quota_after id (quota_with id change before) changes

-- what is left without the other, count by count
abbrev pub less : Usage → Usage → Usage
less a b = record { paid = a.paid - b.paid; pending = a.pending - b.pending; blocked = a.blocked - b.blocked; carts = a.carts - b.carts; waiting = a.waiting - b.waiting; exited = a.exited - b.exited }

-- a usage, with what came and without what went
abbrev pub usage_shifted : Usage → Option QuotaDelta → Usage
usage_shifted usage shift = less (plus usage (come_by shift)) (gone_by shift)

-- a usage is the one that was known
abbrev pub same_as : Usage → Option Usage → Bool
same_as usage None = false
same_as usage (Some known) = same_usage usage known

-- what uses a quota at the office's own moment
abbrev pub used_now : State → Quota → Usage
used_now state quota = usage_of state.lists state.moment quota

-- the count of a quota at a moment, by the rows before changes and what these shift
abbrev pub count_by_shift : State → ℕ → List QuotaDelta → Quota → QuotaCount
count_by_shift state at deltas quota = record { quota = quota.id; usage = usage_shifted (usage_of state.lists at quota) (quota_delta_at quota.id deltas) }

-- the count of a quota by the shifts, unless it was the same before
abbrev pub told_by_shift : State → ℕ → List QuotaDelta → Quota → List QuotaCount
told_by_shift state at deltas quota = told_unless (has_count state (count_by_shift state at deltas quota)) (count_by_shift state at deltas quota)

-- the count by the shifts of the quota of an id after changes, if there is one, unless it was the same before
abbrev pub told_at : State → List Change → ℕ → List QuotaDelta → ℕ → List QuotaCount
told_at state changes at deltas id = told_if (told_by_shift state at deltas) (quota_at id (after_all changes state.lists).catalogue)

-- how often a voucher is redeemed, and what is spent of it, by the rows before and what changes shift
abbrev pub voucher_by_shift : State → VoucherDelta → VoucherCount
voucher_by_shift state shift = record {
  voucher = shift.voucher;
  redeemed = (redeemed shift.voucher state.lists + shift.come) - shift.gone;
  spent = (spent shift.voucher state.lists + shift.spent_come) - shift.spent_gone;
}

-- that is told, if the voucher stands, unless it was the same before
abbrev pub voucher_told_by : State → VoucherDelta → List VoucherCount
voucher_told_by state shift = if shift.stands then told_unless (has_voucher state (voucher_by_shift state shift)) (voucher_by_shift state shift) else []

-- and its id, if it stood and doesn't stand any more
abbrev pub gone_told_by : State → VoucherDelta → List ℕ
gone_told_by state shift = if not shift.stands && is_some (voucher_at shift.voucher state.lists) then shift.voucher ∷ [] else []

-- that ids rise has one proof at most, as a ghost field asks
pub in_order_prop : {T : Type 0} (key : T → ℕ) (n : ℕ) (rows : List T) → IsProp (InOrderFrom key n rows)
in_order_prop key n [] = Unit-prop
in_order_prop key n (r ∷ rs) = ×_prop le_prop (in_order_prop key (key r + 1) rs)
