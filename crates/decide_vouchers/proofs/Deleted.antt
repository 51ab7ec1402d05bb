-- What is known where a voucher was deleted.
use Rattle.std.proofs.Common.{◌≡◌, ℕ, ◌≤◌, false, Some, Result, Ok, sym, ap, subst}
use Rattle.base_values.proofs.Decided.{found, gave_it, unrefused}
use Rattle.model_catalogue.specs.declared.rows.Quota.{Quota}
use Rattle.model_rows.specs.declared.rows.Voucher.{Voucher}
use Rattle.model_rows.specs.declared.changes.Change.TheVariants.{DropVoucher}
use Rattle.model_rows.specs.Lists.{State, voucher_at}
use Rattle.model_rows.specs.Change.{change_applied}
use Rattle.model_rows.specs.Named.{is_used}
use Rattle.model_invariant.specs.Sound.{IsSound}
use Rattle.model_rows.specs.Takes.{places_used}
use Rattle.model_rows.proofs.Lowers.{drop_voucher_lowers}
use Rattle.model_invariant.proofs.Sound.{sound_drop_voucher}
use Rattle.model_commands.specs.declared.vouchers.VoucherRefusal.{VoucherRefusal}
use Rattle.decide_vouchers.specs.Deleted.{voucher_deleted}

-- the voucher stood, nothing names it, and the box office is without it
pub record IsDeleted (id : ℕ) (before after : State) : Type 0 where
  pub old : Voucher
  pub stood : voucher_at id before.lists ≡ Some old
  pub unused : is_used id before.lists ≡ false
  pub is_after : change_applied (DropVoucher id) before ≡ after

module _ (id : ℕ) (before after : State) where
  abbrev Gives : Result State VoucherRefusal → Type 0
  Gives result = result ≡ Ok after

  pub deleted_is : Gives (voucher_deleted id before) → IsDeleted id before after
  unfolding voucher_deleted
  deleted_is h =
      let (old, stood, h1) = found (voucher_at id before.lists) _ _ h in
      let (unused, h2) = unrefused (is_used id before.lists) _ _ h1 in
      record { old = old; stood = stood; unused = unused; is_after = gave_it (change_applied (DropVoucher id) before) after h2 }

  pub deleted_moment : Gives (voucher_deleted id before) → after.moment ≡ before.moment
  deleted_moment h = sym (ap (λ (s : State). s.moment) (deleted_is h).is_after)

  -- no quota is used more than before
  pub deleted_lowers : (quota : Quota) → Gives (voucher_deleted id before) → places_used after quota ≤ places_used before quota
  deleted_lowers quota h =
      let d = deleted_is h in
      subst (λ (s : State). places_used s quota ≤ places_used before quota) d.is_after (drop_voucher_lowers before.lists before.moment id quota d.unused)

  -- the box office stays sound
  pub deleted_sound : IsSound before → Gives (voucher_deleted id before) → IsSound after
  deleted_sound sound h =
      let d = deleted_is h in
      subst IsSound d.is_after (sound_drop_voucher before id d.unused sound)
