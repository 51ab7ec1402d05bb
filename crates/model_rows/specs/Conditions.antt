-- What holds of single rows.
use Rattle.std.specs.Prelude.{ℕ, Bool, true, false, ◌&&◌, ◌==◌, nat_le, Option, Some, None}
use Rattle.model_catalogue.specs.declared.rows.Quota.{Quota}
use Rattle.model_catalogue.specs.Member.{is_in}
use Rattle.model_rows.specs.declared.rows.Voucher.{Voucher}
use Rattle.model_rows.specs.declared.rows.CartPos.{CartPos}
use Rattle.model_rows.specs.declared.rows.Status.{Status}
use Rattle.model_rows.specs.declared.rows.Status.TheVariants.{Pending, Paid, Expired, Cancelled}

-- the status is paid
abbrev pub is_paid : Status → Bool
is_paid Pending = false
is_paid Paid = true
is_paid Expired = false
is_paid Cancelled = false

-- the status is pending
abbrev pub is_pending : Status → Bool
is_pending Pending = true
is_pending Paid = false
is_pending Expired = false
is_pending Cancelled = false

-- the positions of such an order use vouchers
abbrev pub is_in_force : Status → Bool
is_in_force Pending = true
is_in_force Paid = true
is_in_force Expired = false
is_in_force Cancelled = false

-- an end, if there is one, is at this moment or later
abbrev pub has_not_ended : ℕ → Option ℕ → Bool
has_not_ended at None = true
has_not_ended at (Some end) = nat_le at end

-- a voucher is live up to the second of its end, in that one too; without an end it is always live
abbrev pub is_live_voucher : ℕ → Voucher → Bool
is_live_voucher at voucher = has_not_ended at voucher.valid_until

-- a cart position is live up to the second in which it expires, in that one too
abbrev pub is_live_cart : ℕ → CartPos → Bool
is_live_cart at cart = nat_le at cart.expires

-- what a voucher names, an item and maybe a variation, is in the quota; without an item nothing is
abbrev pub hits_by_product : Quota → Option ℕ → Option ℕ → Bool
hits_by_product quota None variation = false
hits_by_product quota (Some item) variation = is_in quota (record { item = item; variation = variation })

-- a voucher hits the quota that it names, or else each one that has its product
abbrev pub hits_by : Quota → Option ℕ → Voucher → Bool
hits_by quota (Some id) voucher = id == quota.id
hits_by quota None voucher = hits_by_product quota voucher.item voucher.variation

-- the voucher hits the quota
abbrev pub hits : Quota → Voucher → Bool
hits quota voucher = hits_by quota voucher.quota voucher

-- the row names this voucher
abbrev pub names : ℕ → Option ℕ → Bool
names id None = false
names id (Some voucher) = voucher == id

-- a voucher that blocks places of the quota
abbrev pub blocks : ℕ → Quota → Voucher → Bool
blocks at quota voucher = voucher.block_quota && is_live_voucher at voucher && hits quota voucher

-- a live cart position that names the voucher
abbrev pub holds : ℕ → ℕ → CartPos → Bool
holds at id cart = is_live_cart at cart && names id cart.voucher

-- both are none, or both are this id
abbrev pub same_id : Option ℕ → Option ℕ → Bool
same_id None None = true
same_id None (Some b) = false
same_id (Some a) None = false
same_id (Some a) (Some b) = a == b
