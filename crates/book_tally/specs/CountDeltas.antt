-- What changes shift of the counts of quotas and vouchers: how much came of each, and how much went.
use Rattle.std.specs.Prelude.{◌≡◌, ℕ, ◌+◌, Bool, List, Option, Some, None, is_some}
use Rattle.base_tables.specs.Tables.{row_at, AreInOrder}
use Rattle.model_catalogue.specs.declared.rows.Quota.{Quota}
use Rattle.model_catalogue.specs.CatalogueLists.{quota_at}
use Rattle.model_rows.specs.declared.rows.Usage.{Usage}
use Rattle.model_rows.specs.Lists.{Lists, voucher_at}
use Rattle.model_rows.specs.Usage.{usage_of, redeemed, spent}
use Rattle.book_tally.specs.Amounts.{nothing, plus}
use Rattle.book_tally.specs.declared.deltas.QuotaDelta.{QuotaDelta}
use Rattle.book_tally.specs.declared.deltas.VoucherDelta.{VoucherDelta}
use Rattle.book_tally.specs.declared.deltas.CountDeltas.{CountDeltas}

-- what changes shift of the quota of this id, if they shift any of it
abbrev pub quota_delta_at : ℕ → List QuotaDelta → Option QuotaDelta
quota_delta_at id deltas = row_at (λ s. s.quota) id deltas

-- what changes shift of the voucher of this id, if they shift any of it
abbrev pub voucher_delta_at : ℕ → List VoucherDelta → Option VoucherDelta
voucher_delta_at id deltas = row_at (λ s. s.voucher) id deltas

-- what came by a shift, if there is one
abbrev pub come_by : Option QuotaDelta → Usage
come_by None = nothing
come_by (Some shift) = shift.come

-- and what went
abbrev pub gone_by : Option QuotaDelta → Usage
gone_by None = nothing
gone_by (Some shift) = shift.gone

-- the uses that came by a shift, if there is one
abbrev pub come_used : Option VoucherDelta → ℕ
come_used None = 0
come_used (Some shift) = shift.come

-- and those that went
abbrev pub gone_used : Option VoucherDelta → ℕ
gone_used None = 0
gone_used (Some shift) = shift.gone

-- what came to be spent of a voucher by a shift, if there is one
abbrev pub come_spent : Option VoucherDelta → ℕ
come_spent None = 0
come_spent (Some shift) = shift.spent_come

-- and what isn't spent any more
abbrev pub gone_spent : Option VoucherDelta → ℕ
gone_spent None = 0
gone_spent (Some shift) = shift.spent_gone

-- whether a voucher stands afterwards: as its shift tells, and as it did before where it has none
abbrev pub stands_by : Bool → Option VoucherDelta → Bool
stands_by stood None = stood
stands_by stood (Some shift) = shift.stands

-- lists after changes, by what these shift of the lists before them, counted at one moment. A quota is meant as it is afterwards: of its
-- usage by the rows then, what went, is its usage by the rows before, with what came. Of a voucher it tells how often it is redeemed, what
-- is spent of it, and whether it stands
pub record AreCountDeltas (before after : Lists) (at : ℕ) (deltas : CountDeltas) : Type 0 where
  pub quotas : (q : Quota) → quota_at q.id after.catalogue ≡ Some q → plus (usage_of after at q) (gone_by (quota_delta_at q.id deltas.quotas.items)) ≡ plus (usage_of before at q) (come_by (quota_delta_at q.id deltas.quotas.items))
  pub vouchers : (v : ℕ) → redeemed v after + gone_used (voucher_delta_at v deltas.vouchers.items) ≡ redeemed v before + come_used (voucher_delta_at v deltas.vouchers.items)
  pub spent : (v : ℕ) → spent v after + gone_spent (voucher_delta_at v deltas.vouchers.items) ≡ spent v before + come_spent (voucher_delta_at v deltas.vouchers.items)
  pub stands : (v : ℕ) → is_some (voucher_at v after) ≡ stands_by (is_some (voucher_at v before)) (voucher_delta_at v deltas.vouchers.items)
  pub quota_order : AreInOrder (λ s. s.quota) deltas.quotas.items
  pub voucher_order : AreInOrder (λ s. s.voucher) deltas.vouchers.items
