-- Counters that stand beside a book.
use Rattle.std.specs.Prelude.{◌≡◌, List}
use Rattle.model_rows.specs.declared.count_rows.QuotaCount.{QuotaCount}
use Rattle.model_rows.specs.declared.count_rows.VoucherCount.{VoucherCount}
use Rattle.model_rows.specs.CountRows.{quota_counts, voucher_counts}
use Rattle.model_rows.specs.Lists.{State}

-- they are what is counted afresh
abbrev pub AreCounted : State → List QuotaCount → List VoucherCount → Type 0
AreCounted state used redeemed = (used ≡ quota_counts state) × (redeemed ≡ voucher_counts state)
