-- Which changes a draft can make: none of what is for sale, and all others with headroom.
use Rattle.std.specs.Prelude.{◌≡◌, ℕ, None}
use Rattle.model_rows.specs.declared.changes.Change.{Change}
use Rattle.model_rows.specs.declared.changes.Change.TheVariants.{PutItem, PutVariation, PutQuota, PutPosition, PutCheckin}
use Rattle.model_rows.specs.Change.{after_change}
use Rattle.model_rows.specs.Headroom.{AllHaveHeadroom}
use Rattle.model_rows.specs.Lists.{Lists, position_at, checkin_at}
use Rattle.draft_counts.specs.Logs.{Log, rows_of}

-- no voucher is used too often, before the change and after it
pub record KeepsHeadroom (at : ℕ) (change : Change) (lists : Lists) : Type 0 where
  pub before : AllHaveHeadroom at lists
  pub after : AllHaveHeadroom at (after_change change lists)

-- what a draft can change after these changes: nothing that is for sale, and the rest with headroom, where an order
-- position or a check-in is a new one
abbrev pub CanCome : ℕ → Log → Change → Type 0
CanCome at log (PutItem row) = ⊥
CanCome at log (PutVariation row) = ⊥
CanCome at log (PutQuota row) = ⊥
CanCome at log (PutPosition row) = (position_at row.id (rows_of log) ≡ None) × KeepsHeadroom at (PutPosition row) (rows_of log)
CanCome at log (PutCheckin row) = (checkin_at row.id (rows_of log) ≡ None) × KeepsHeadroom at (PutCheckin row) (rows_of log)
CanCome at log change = KeepsHeadroom at change (rows_of log)
