-- What a draft hands on of its counts: a shift for each quota and each voucher that its changes touched.
use Rattle.std.specs.Prelude.{◌≡◌, ℕ, false, List, [], ◌∷◌, flat_map, is_some}
use Rattle.base_tables.specs.Tables.{has}
use Rattle.model_catalogue.specs.declared.rows.Quota.{Quota}
use Rattle.model_rows.specs.declared.changes.Change.{Change}
use Rattle.model_rows.specs.declared.changes.Change.TheVariants.{PutVoucher, DropVoucher}
use Rattle.model_rows.specs.declared.rows.Usage.{Usage}
use Rattle.model_rows.specs.Lists.{Lists, voucher_at}
use Rattle.book_tally.specs.declared.amount.Uses.{Uses}
use Rattle.book_tally.specs.declared.deltas.QuotaDelta.{QuotaDelta}
use Rattle.book_tally.specs.declared.deltas.VoucherDelta.{VoucherDelta}
use Rattle.book_tally.specs.declared.tally.Count.{Count}
use Rattle.book_tally.specs.Amounts.{nothing, no_uses}
use Rattle.book_tally.specs.Counts.{came, went}
use Rattle.draft_counts.specs.Counts.{value_at}

-- the voucher that a change puts or drops
abbrev pub vouchers_by : Change → List ℕ
vouchers_by (PutVoucher row) = row.id ∷ []
vouchers_by (DropVoucher id) = id ∷ []
vouchers_by _ = []

-- the vouchers that these changes put or drop are among the noted ones
abbrev pub AreNoted : List Change → List ℕ → Type 0
AreNoted changes noted = (v : ℕ) → has v noted ≡ false → has v (flat_map vouchers_by changes) ≡ false

-- what came and went of the quota at a place, where there is one
abbrev pub quota_shift : List Quota → List (Count Usage) → ℕ → List QuotaDelta
quota_shift quotas counts place = value_at [] (λ q. record { quota = q.id; come = came nothing place counts; gone = went nothing place counts } ∷ []) quotas place

-- what came and went of a voucher's uses in orders, what they spend of it, and whether it stands
abbrev pub voucher_shift : Lists → List (Count Uses) → ℕ → List VoucherDelta
voucher_shift lists uses id = record {
  voucher = id;
  come = (came no_uses id uses).used;
  gone = (went no_uses id uses).used;
  spent_come = (came no_uses id uses).spent;
  spent_gone = (went no_uses id uses).spent;
  stands = is_some (voucher_at id lists);
} ∷ []
