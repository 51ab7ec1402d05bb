-- Whatever takes places again that exits set free, takes them of quotas that release places.
use Rattle.std.proofs.Common.{◌≡◌, ℕ, Bool, true, false, ◌&&◌, List, [], ◌∷◌, Option, Some, None, refl}
use Rattle.std.specs.Prelude.{◌||◌}
use Rattle.std.specs.List.{list_any}
use Rattle.model_catalogue.specs.declared.rows.Quota.{Quota}
use Rattle.model_rows.specs.declared.rows.Order.{Order}
use Rattle.model_rows.specs.declared.rows.OrderPos.{OrderPos}
use Rattle.model_rows.specs.declared.rows.Status.{Status}
use Rattle.model_rows.specs.declared.rows.Status.TheVariants.{Pending, Paid, Expired, Cancelled}
use Rattle.model_rows.specs.Lists.{Lists, State, order_at, positions_of}
use Rattle.model_rows.specs.Refills.{blocks_again, refills_by}
use Rattle.model_rows.specs.Usage.{is_covered_by}
use Rattle.model_rows.specs.Passages.{is_out}
use Rattle.model_commands.specs.declared.orders.Move.{Move}
use Rattle.model_commands.specs.declared.requests.Command.{Command}
use Rattle.model_commands.specs.declared.requests.Command.TheVariants.{AddItem, ChangeItem, AddVariation, AddQuota, ResizeQuota, AddVoucher, ChangeVoucher, DropVoucher, ImportVouchers, AddCart, AddCarts, DropCart, AddOrder, MoveOrder, AddWaiting, ChangeWaiting, DropWaiting, SendVoucher, Periodic, AddCheckinList, Redeem}
use Rattle.decide_orders.specs.declared.moves.Transition.{Transition}
use Rattle.decide_orders.specs.Moves.{transition_of}
use Rattle.office_runs.specs.Takings.{refills_turned, refills_found, fills_again}

first_is : (a b : Bool) → (a && b) ≡ true → a ≡ true
first_is true b e = refl
first_is false b e = absurd (cc (e))

blocked_released : (lists : Lists) (at : ℕ) (quota : Quota) (positions : List OrderPos) → list_any (blocks_again lists at quota) positions ≡ true → quota.release_after_exit ≡ true
blocked_released lists at quota [] e = absurd (cc (e))
blocked_released lists at quota (p ∷ ps) e = by_one (blocks_again lists at quota p) refl e (λ more. blocked_released lists at quota ps more)
  where
    by_one : (b : Bool) → blocks_again lists at quota p ≡ b → (b || list_any (blocks_again lists at quota) ps) ≡ true → (list_any (blocks_again lists at quota) ps ≡ true → quota.release_after_exit ≡ true) → quota.release_after_exit ≡ true
    by_one true is h others = first_is quota.release_after_exit (is_out p.id lists.checkins) (first_is (quota.release_after_exit && is_out p.id lists.checkins) (is_covered_by lists at quota p.voucher) is)
    by_one false is h others = others h

module _ (state : State) (quota : Quota) where
  turned_released : (old : Order) (found : Option Transition) → refills_turned state quota old found ≡ true → quota.release_after_exit ≡ true
  turned_released old None e = absurd (cc (e))
  turned_released old (Some turn) e = by_statuses old.status turn.status e
    where
      by_statuses : (s t : Status) → refills_by s t quota.release_after_exit (list_any (blocks_again state.lists state.moment quota) (positions_of old.id state.lists)) ≡ true → quota.release_after_exit ≡ true
      by_statuses Paid Pending h = h
      by_statuses Paid Expired h = blocked_released state.lists state.moment quota (positions_of old.id state.lists) h
      by_statuses Paid Cancelled h = blocked_released state.lists state.moment quota (positions_of old.id state.lists) h
      by_statuses Paid Paid h = absurd (cc (h))
      by_statuses Pending t h = absurd (cc (h))
      by_statuses Expired t h = absurd (cc (h))
      by_statuses Cancelled t h = absurd (cc (h))

  found_released : (found : Option Order) (change : Move) → refills_found state quota found change ≡ true → quota.release_after_exit ≡ true
  found_released None change e = absurd (cc (e))
  found_released (Some old) change e = turned_released old (transition_of old.status change) e

pub filled_released : (command : Command) (state : State) (quota : Quota) → fills_again command state quota ≡ true → quota.release_after_exit ≡ true
filled_released (AddItem new) state quota e = absurd (cc (e))
filled_released (ChangeItem id patch) state quota e = absurd (cc (e))
filled_released (AddVariation item new) state quota e = absurd (cc (e))
filled_released (AddQuota new) state quota e = absurd (cc (e))
filled_released (ResizeQuota id patch) state quota e = absurd (cc (e))
filled_released (AddVoucher new) state quota e = absurd (cc (e))
filled_released (ChangeVoucher id patch) state quota e = absurd (cc (e))
filled_released (DropVoucher id) state quota e = absurd (cc (e))
filled_released (ImportVouchers vouchers) state quota e = absurd (cc (e))
filled_released (AddCart new) state quota e = absurd (cc (e))
filled_released (AddCarts entries) state quota e = absurd (cc (e))
filled_released (DropCart id) state quota e = absurd (cc (e))
filled_released (AddOrder new) state quota e = absurd (cc (e))
filled_released (MoveOrder number change) state quota e = found_released state quota (order_at number state.lists) change e
filled_released (AddWaiting new) state quota e = absurd (cc (e))
filled_released (ChangeWaiting id patch) state quota e = absurd (cc (e))
filled_released (DropWaiting id) state quota e = absurd (cc (e))
filled_released (SendVoucher id) state quota e = absurd (cc (e))
filled_released Periodic state quota e = absurd (cc (e))
filled_released (AddCheckinList new) state quota e = absurd (cc (e))
filled_released (Redeem list ticket scan) state quota e = first_is quota.release_after_exit _ e
