-- The counts of a commit, one after another.
use Rattle.std.proofs.Common.{◌≡◌, ℕ, List, [], ◌∷◌, refl, subst, ap, ◌∙◌}
use Rattle.sqlite.specs.State.{State}
use Rattle.model_rows.specs.declared.count_rows.VoucherCount.{VoucherCount}
use Rattle.model_rows.specs.CountRows.{CountRows}
use Rattle.file_rows.specs.Tables.{Tables}
use Rattle.file_rows.specs.Changes.{Changes, ChangesFit, head_of_spent, with_spent, without_spent}
use Rattle.file_meaning.specs.Free.{IsFree}
use Rattle.file_writes.specs.Vouchers as rows
use Rattle.file_meaning.specs.Made.{put_count, put_exit, put_uses, set_redeemed, each, with_counts}
use Rattle.file_tables.specs.Free.{uses_stay_free}
use Rattle.file_tables.specs.Steps.{made_each, next_each}
use Rattle.file_tables.proofs.RowLemmas.{redeemed_set}
use Rattle.file_tables.proofs.Steps.{fits_all, fits_as, then_fits}

module _ {T : Type 0} (step : T → Tables → Tables) where
  abbrev pub each_of : List T → ℕ → Tables → Tables
  each_of xs from t = made_each (λ x n. step x) (λ x n. n) xs from t

  -- no number is used
  pub same_each : (xs : List T) (from : ℕ) (t : Tables) → each_of xs from t ≡ each step xs t
  same_each [] from t = refl
  same_each (x ∷ xs) from t = same_each xs from (step x t)

pub next_same : {T : Type 0} (xs : List T) (from : ℕ) → next_each (λ (x : T) n. n) xs from ≡ from
next_same [] from = refl
next_same (x ∷ xs) from = next_same xs from

free_uses : (xs : List VoucherCount) (from : ℕ) (t : Tables) → IsFree from t → IsFree from (each_of put_uses xs from t)
free_uses [] from t h = h
free_uses (x ∷ xs) from t h = free_uses xs from (put_uses x t) (uses_stay_free x from t h)

-- the vouchers' counts, then those of quotas, and then how many tickets are out
pub all_counted : (counts : CountRows) (from free : ℕ) (old set used new : State) → free ≡ next_each (λ (x : VoucherCount) n. n) counts.vouchers from → ChangesFit (IsFree from) (each_of put_uses counts.vouchers from) old set
    → ChangesFit (IsFree free) (each_of put_count counts.quotas free) set used → Changes (each put_exit counts.exits) used new → ChangesFit (IsFree from) (with_counts counts) old new
all_counted counts from free old set used new is a b c =
    let same : free ≡ from = is ∙ next_same counts.vouchers from in
    let b2 : ChangesFit (IsFree from) (each_of put_count counts.quotas from) set used = subst (λ n. ChangesFit (IsFree n) (each_of put_count counts.quotas n) set used) same b in
    let both = then_fits (IsFree from) (IsFree from) (each_of put_uses counts.vouchers from) (each_of put_count counts.quotas from) old set used (free_uses counts.vouchers from) a b2 in
    let first : Tables → Tables = λ t. each_of put_count counts.quotas from (each_of put_uses counts.vouchers from t) in
    let last = each put_exit counts.exits in
    fits_as (IsFree from) (λ t. last (first t)) (with_counts counts) old new
    (λ t. ap last (same_each put_count counts.quotas from (each_of put_uses counts.vouchers from t) ∙ ap (each put_count counts.quotas) (same_each put_uses counts.vouchers from t)))
    (then_fits (IsFree from) (λ _. Unit {0}) first last old used new (λ t fits. tt) both (fits_all (λ _. Unit {0}) last used new c))

-- how often a voucher is redeemed, and what is spent of it
pub uses_put : (Fits : Tables → Type 0) (c : VoucherCount) (old mid new : State) → Changes (rows.set_redeemed c) old mid → Changes (λ t. with_spent (head_of_spent c) (without_spent c.voucher t)) mid new → ChangesFit Fits (put_uses c) old new
uses_put Fits c old mid new a b =
    then_fits Fits (λ _. Unit {0}) (set_redeemed c) (λ t. with_spent (head_of_spent c) (without_spent c.voucher t)) old mid new (λ t fits. tt) (redeemed_set Fits c old mid a) (fits_all (λ _. Unit {0}) (λ t. with_spent (head_of_spent c) (without_spent c.voucher t)) mid new b)
