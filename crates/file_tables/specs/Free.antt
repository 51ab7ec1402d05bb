-- After each thing that is written a row number is free.
use Rattle.std.specs.Prelude.{ℕ}
use Rattle.model_rows.specs.declared.changes.Change.{Change}
use Rattle.model_rows.specs.declared.count_rows.QuotaCount.{QuotaCount}
use Rattle.model_rows.specs.declared.count_rows.VoucherCount.{VoucherCount}
use Rattle.file_rows.specs.Tables.{Tables}
use Rattle.file_meaning.specs.Free.{IsFree}
use Rattle.file_meaning.specs.Made.{made_by, next_by, put_count, put_uses}
use Rattle.file_meaning.proofs.Made.{one_turned}

pub change_stays_free : (change : Change) (from : ℕ) (t : Tables) → IsFree from t → IsFree (next_by change from) (made_by change from t)
change_stays_free change from t h = (one_turned change from t h).free

pub count_stays_free : (count : QuotaCount) (from : ℕ) (t : Tables) → IsFree from t → IsFree from (put_count count t)
count_stays_free count from t h = record { quota_items = h.quota_items; quota_variations = h.quota_variations; list_items = h.list_items; kept = h.kept }

pub uses_stay_free : (count : VoucherCount) (from : ℕ) (t : Tables) → IsFree from t → IsFree from (put_uses count t)
uses_stay_free count from t h = record { quota_items = h.quota_items; quota_variations = h.quota_variations; list_items = h.list_items; kept = h.kept }
