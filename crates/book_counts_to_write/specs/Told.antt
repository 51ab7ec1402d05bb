-- Which counts of an office are told where it comes after another one.
use Rattle.std.specs.Prelude.{◌≡◌, Bool, not, ℕ, List, [], ◌∷◌, ◌++◌, flat_map, if◌then◌else◌, is_none, Option, Some, None, OnOk, Result, Vec}
use Rattle.std.specs.List.{list_any}
use Rattle.base_tables.specs.Tables.{AreInOrder}
use Rattle.model_catalogue.specs.declared.rows.Quota.{Quota}
use Rattle.model_rows.specs.declared.rows.Voucher.{Voucher}
use Rattle.model_rows.specs.declared.count_rows.QuotaCount.{QuotaCount}
use Rattle.model_rows.specs.declared.count_rows.VoucherCount.{VoucherCount}
use Rattle.model_rows.specs.Lists.{Lists, State, voucher_at}
use Rattle.model_rows.specs.CountRows.{quota_count, quota_counts, same_quota_count, same_exits, voucher_count, voucher_counts, same_voucher_count}

-- where it succeeds, a list has gained these at its end
abbrev pub Adds : {T Z A E : Type 0} → Result A E → Vec T Z → Vec T Z → List T → Type 0
Adds result old new more = OnOk result (new.items ≡ old.items ++ more)

-- where it succeeds, a list has gained what each of these tells, one after another
abbrev pub AddsEach : {S T Z A E : Type 0} → Result A E → Vec T Z → Vec T Z → (S → List T) → List S → Type 0
AddsEach result old new told rows = Adds result old new (flat_map told rows)

-- ids rise in the tables of quotas, vouchers and cart positions
pub record AreOrdered (lists : Lists) : Type 0 where
  pub quotas : AreInOrder (λ r. r.id) lists.catalogue.quotas
  pub vouchers : AreInOrder (λ r. r.id) lists.vouchers
  pub carts : AreInOrder (λ r. r.id) lists.carts

-- an office before changes and after them
pub record Passage : Type 0 where
  pub before : State
  pub after : State

-- from the one office to the other
abbrev pub from_to : State → State → Passage
from_to before after = record { before = before; after = after }

-- the office has this very count of a quota
abbrev pub has_count : State → QuotaCount → Bool
has_count state count = list_any (same_quota_count count) (quota_counts state)

-- the office has a quota of this id, of which as many tickets are out
abbrev pub has_exits : State → QuotaCount → Bool
has_exits state count = list_any (same_exits count) (quota_counts state)

-- the office has this very count of a voucher
abbrev pub has_voucher : State → VoucherCount → Bool
has_voucher state count = list_any (same_voucher_count count) (voucher_counts state)

-- the row alone, unless it is known
abbrev pub told_unless : {T : Type 0} → Bool → T → List T
told_unless known row = if not known then row ∷ [] else []

-- the count of a quota that stands afterwards, unless it was the same before
abbrev pub quota_told : Passage → Quota → List QuotaCount
quota_told both quota = told_unless (has_count both.before (quota_count both.after quota)) (quota_count both.after quota)

-- the count of a voucher that stands afterwards, unless it was the same before
abbrev pub voucher_told : Passage → Voucher → List VoucherCount
voucher_told both voucher = told_unless (has_voucher both.before (voucher_count both.after voucher)) (voucher_count both.after voucher)

-- the id of a voucher that stood before, where it doesn't afterwards
abbrev pub gone_told : Passage → Voucher → List ℕ
gone_told both voucher = if is_none (voucher_at voucher.id both.after.lists) then voucher.id ∷ [] else []

-- what is told of a row, if there is one
abbrev pub told_if : {T U : Type 0} → (T → List U) → Option T → List U
told_if told None = []
told_if told (Some row) = told row
