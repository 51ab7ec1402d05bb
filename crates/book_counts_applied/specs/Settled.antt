-- What is kept beside rows, by their ids, and some of it put.
use Rattle.std.specs.List.{AllByRecursion}
use Rattle.std.specs.Prelude.{◌≡◌, ◌≤◌, ◌+◌, ℕ, ◌==◌, length, List, [], ◌∷◌, Vec, Option, Some, None, if◌then◌else◌}
use Rattle.model_catalogue.specs.declared.rows.Quota.{Quota}
use Rattle.model_catalogue.specs.CatalogueLists.{quota_at}
use Rattle.model_rows.specs.declared.changes.Change.{Change}
use Rattle.model_rows.specs.declared.changes.Change.TheVariants.{PutVoucher}
use Rattle.model_rows.specs.declared.rows.Usage.{Usage}
use Rattle.model_rows.specs.declared.rows.Voucher.{Voucher}
use Rattle.model_rows.specs.Change.{after_change}
use Rattle.model_rows.specs.Lists.{Lists, State, voucher_at}
use Rattle.model_rows.specs.Usage.{usage_of, redeemed, spent}
use Rattle.model_rows.specs.Weight.{change_weight}
use Rattle.book_usage.specs.Limits.{last_use}
use Rattle.book_counts_over_time.specs.Beside.{AreBeside, room_left}
use Rattle.book_counts_over_time.specs.Held.{AreHeldNow}
use Rattle.book_counts_over_time.specs.Spends.{ArePriced, AreSpent}
use Rattle.book_counts_over_time.specs.Usages.{AreUsages, AreRedeemed}
use Rattle.book_counts_applied.specs.declared.counted.Counted.{Counted}

-- the usage of a quota of which no place is used
abbrev pub nothing : Usage
nothing = record { paid = 0; pending = 0; blocked = 0; carts = 0; waiting = 0; exited = 0 }

-- what uses the quota, and nothing where there is none
abbrev pub used_if : State → Option Quota → Usage
used_if state None = nothing
used_if state (Some quota) = usage_of state.lists state.moment quota

-- what the quota of an id uses, and nothing where there is none
abbrev pub used_at : State → ℕ → Usage
used_at state id = used_if state (quota_at id state.lists.catalogue)

-- how often the voucher is redeemed, and 0 where there is none
abbrev pub redeemed_if : State → Option Voucher → ℕ
redeemed_if state None = 0
redeemed_if state (Some voucher) = redeemed voucher.id state.lists

-- how often the voucher of an id is redeemed, and 0 where there is none
abbrev pub redeemed_at : State → ℕ → ℕ
redeemed_at state id = redeemed_if state (voucher_at id state.lists)

-- what is spent of the voucher, and 0 where there is none
abbrev pub spent_if : State → Option Voucher → ℕ
spent_if state None = 0
spent_if state (Some voucher) = spent voucher.id state.lists

-- what is spent of the voucher of an id, and 0 where there is none
abbrev pub spent_at : State → ℕ → ℕ
spent_at state id = spent_if state (voucher_at id state.lists)

-- values by id, with a value put at this id
abbrev pub put_at : {U : Type 0} → ℕ → U → (ℕ → U) → ℕ → U
put_at id value f x = if id == x then value else f x

-- and with that of each of these
abbrev pub put_each : {C U : Type 0} → (C → ℕ) → (C → U) → List C → (ℕ → U) → ℕ → U
put_each of value [] f x = f x
put_each of value (count ∷ counts) f x = put_each of value counts (put_at (of count) (value count) f) x

-- whatever stood beside the quotas by their ids, and was nothing for those that don't stand, stands beside those after the change
abbrev pub KeepsQuotas : {Z : Type 0} → Change → Lists → Vec Usage Z → Vec Usage Z → Type 0
KeepsQuotas change lists old new = (f : ℕ → Usage) → ((id : ℕ) → quota_at id lists.catalogue ≡ None → f id ≡ nothing) → AreBeside (λ q. q.id) f lists.catalogue.quotas old.items → AreBeside (λ q. q.id) f (after_change change lists).catalogue.quotas new.items

-- whatever stood beside the vouchers by their ids, and was this other value for a new one, stands beside those after the change
abbrev pub KeepsVouchers : {U Z : Type 0} → U → Change → Lists → Vec U Z → Vec U Z → Type 0
KeepsVouchers {U} other change lists old new = (f : ℕ → U) → ((row : Voucher) → change ≡ PutVoucher row → voucher_at row.id lists ≡ None → f row.id ≡ other) → AreBeside (λ v. v.id) f lists.vouchers old.items → AreBeside (λ v. v.id) f (after_change change lists).vouchers new.items

-- of a voucher that is put where none stands nothing is kept: it is a new one
abbrev pub ArePutsNew : (ℕ → ℕ) → List Change → Lists → Type 0
ArePutsNew kept [] lists = Unit {0}
ArePutsNew kept (PutVoucher row ∷ changes) lists = (voucher_at row.id lists ≡ None → kept row.id ≡ 0) × ArePutsNew kept changes (after_change (PutVoucher row) lists)
ArePutsNew kept (change ∷ changes) lists = ArePutsNew kept changes (after_change change lists)

-- how often vouchers may be used, and the discounts of order positions: as their types have it
pub record AreSmall (lists : Lists) : Type 0 where
  pub uses : AllByRecursion (λ v. v.max_usages ≤ last_use) lists.vouchers
  pub discounts : ArePriced lists

-- beside each quota, and beside each voucher, a value of each kind is kept
pub record IsOfRows (lists : Lists) (counted : Counted) : Type 0 where
  pub usages : length counted.usages.items ≡ length lists.catalogue.quotas
  pub redeems : length counted.redeems.items ≡ length lists.vouchers
  pub spents : length counted.spents.items ≡ length lists.vouchers
  pub holds : length counted.holds.items ≡ length lists.vouchers

-- all that is kept beside the rows is that of the box office at its moment
pub record AllCounted (state : State) (counted : Counted) : Type 0 where
  -- the usage of each quota
  pub usages : AreUsages state.lists state.moment counted.usages.items
  -- how often each voucher is redeemed, and what is spent of its budget
  pub redeems : AreRedeemed state.lists counted.redeems.items
  pub spents : AreSpent state.lists counted.spents.items
  -- how many live cart positions name it
  pub held : AreHeldNow state counted.holds.items
  pub small : AreSmall state.lists

-- as many rows fit among those of the box office, and as many values beside them, without taking memory
pub record AllFit (count room : ℕ) (counted : Counted) : Type 0 where
  pub rows : count ≤ room
  pub usages : count ≤ room_left counted.usages
  pub redeems : count ≤ room_left counted.redeems
  pub spents : count ≤ room_left counted.spents
  pub holds : count ≤ room_left counted.holds

-- a change of the rows is made: what was kept of them is kept beside those after it, and it took no more room than the change has weight
pub record IsCarried (change : Change) (lists : Lists) (old new : Counted) : Type 0 where
  pub usages : KeepsQuotas change lists old.usages new.usages
  pub redeems : KeepsVouchers 0 change lists old.redeems new.redeems
  pub spents : KeepsVouchers 0 change lists old.spents new.spents
  pub usages_room : room_left old.usages ≤ room_left new.usages + change_weight change
  pub redeems_room : room_left old.redeems ≤ room_left new.redeems + change_weight change
  pub spents_room : room_left old.spents ≤ room_left new.spents + change_weight change
  pub holds_room : room_left old.holds ≤ room_left new.holds + change_weight change
