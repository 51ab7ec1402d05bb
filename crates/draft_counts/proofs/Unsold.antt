-- A change that sells nothing brings nothing and takes nothing.
use Rattle.std.proofs.Common.{◌≡◌, ℕ, List, refl}
use Rattle.model_catalogue.specs.declared.rows.Quota.{Quota}
use Rattle.model_rows.specs.declared.rows.Voucher.{Voucher}
use Rattle.model_rows.specs.declared.rows.CartPos.{CartPos}
use Rattle.model_rows.specs.declared.rows.Checkin.{Checkin}
use Rattle.model_rows.specs.declared.rows.Order.{Order}
use Rattle.model_rows.specs.declared.rows.OrderPos.{OrderPos}
use Rattle.model_rows.specs.declared.rows.Waiting.{Waiting}
use Rattle.model_rows.specs.declared.changes.Change.{Change}
use Rattle.model_rows.specs.declared.changes.Change.TheVariants.{PutItem, PutVariation, PutQuota, PutVoucher, PutCart, PutOrder, PutPosition, PutWaiting, DropVoucher, DropCart, DropWaiting, PutCheckinList, PutCheckin}
use Rattle.model_rows.specs.Lists.{Lists}
use Rattle.model_rows.specs.declared.rows.Usage.{Usage}
use Rattle.book_tally.specs.declared.tally.Count.{Count}
use Rattle.draft_counts.specs.Counts.{IsMore}
use Rattle.draft_counts.specs.CountDelta.{come_of, gone_of}
use Rattle.draft_counts.proofs.Values.{none_more}

module _ (lists : Lists) (at : ℕ) (quotas : List Quota) (counts : List (Count Usage)) where
  pub unsold : (change : Change) → ((row : Voucher) → change ≡ PutVoucher row → ⊥) → ((row : CartPos) → change ≡ PutCart row → ⊥) → ((row : Order) → change ≡ PutOrder row → ⊥) → ((row : OrderPos) → change ≡ PutPosition row → ⊥)
      → ((row : Waiting) → change ≡ PutWaiting row → ⊥) → ((id : ℕ) → change ≡ DropVoucher id → ⊥) → ((id : ℕ) → change ≡ DropCart id → ⊥) → ((id : ℕ) → change ≡ DropWaiting id → ⊥) → ((row : Checkin) → change ≡ PutCheckin row → ⊥)
      → IsMore (come_of lists at change) (gone_of lists at change) quotas counts counts
  unsold (PutItem row) a b c d e f g h i = none_more quotas counts
  unsold (PutVariation row) a b c d e f g h i = none_more quotas counts
  unsold (PutQuota row) a b c d e f g h i = none_more quotas counts
  unsold (PutVoucher row) a b c d e f g h i = absurd (a row refl)
  unsold (PutCart row) a b c d e f g h i = absurd (b row refl)
  unsold (PutOrder row) a b c d e f g h i = absurd (c row refl)
  unsold (PutPosition row) a b c d e f g h i = absurd (d row refl)
  unsold (PutWaiting row) a b c d e f g h i = absurd (e row refl)
  unsold (DropVoucher id) a b c d e f g h i = absurd (f id refl)
  unsold (DropCart id) a b c d e f g h i = absurd (g id refl)
  unsold (DropWaiting id) a b c d e f g h i = absurd (h id refl)
  unsold (PutCheckinList row) a b c d e f g h i = none_more quotas counts
  unsold (PutCheckin row) a b c d e f g h i = absurd (i row refl)
