-- Every list stays in order, and grows by one at most.
use Rattle.std.proofs.Common.{◌≡◌, ℕ, ◌+◌, List, [], ◌∷◌, length, arith, suc, add-zero}
use Rattle.base_tables.specs.Tables.{AreKept}
use Rattle.base_tables.proofs.Edits.{kept_more, kept-with_row, kept-without_row}
use Rattle.model_rows.specs.declared.changes.Change.{Change}
use Rattle.model_rows.specs.declared.changes.Change.TheVariants.{PutVoucher, PutCart, PutOrder, PutPosition, PutWaiting, DropVoucher, DropCart, DropWaiting, PutCheckinList, PutCheckin}
use Rattle.model_rows.specs.Lists.{Lists}
use Rattle.model_rows.specs.Change.{after_change, after_all}
use Rattle.model_rows.specs.Kept.{IsKept}

module _ (limit : ℕ) (lists : Lists) (k : IsKept limit lists) where
  vouchers : AreKept (λ r. r.id) (limit + 1) lists.vouchers
  vouchers = kept_more _ limit lists.vouchers k.vouchers

  carts : AreKept (λ r. r.id) (limit + 1) lists.carts
  carts = kept_more _ limit lists.carts k.carts

  orders : AreKept (λ r. r.id) (limit + 1) lists.orders
  orders = kept_more _ limit lists.orders k.orders

  positions : AreKept (λ r. r.id) (limit + 1) lists.positions
  positions = kept_more _ limit lists.positions k.positions

  waiting : AreKept (λ r. r.id) (limit + 1) lists.waiting
  waiting = kept_more _ limit lists.waiting k.waiting

  checkin_lists : AreKept (λ r. r.id) (limit + 1) lists.checkin_lists
  checkin_lists = kept_more _ limit lists.checkin_lists k.checkin_lists

  checkins : AreKept (λ r. r.id) (limit + 1) lists.checkins
  checkins = kept_more _ limit lists.checkins k.checkins

  pub kept_after_change : (change : Change) → IsKept (limit + 1) (after_change change lists)
  kept_after_change (PutVoucher row) = record { vouchers = kept-with_row _ limit row lists.vouchers k.vouchers; carts = carts; orders = orders; positions = positions; waiting = waiting; checkin_lists = checkin_lists; checkins = checkins }
  kept_after_change (PutCart row) = record { vouchers = vouchers; carts = kept-with_row _ limit row lists.carts k.carts; orders = orders; positions = positions; waiting = waiting; checkin_lists = checkin_lists; checkins = checkins }
  kept_after_change (PutOrder row) = record { vouchers = vouchers; carts = carts; orders = kept-with_row _ limit row lists.orders k.orders; positions = positions; waiting = waiting; checkin_lists = checkin_lists; checkins = checkins }
  kept_after_change (PutPosition row) = record { vouchers = vouchers; carts = carts; orders = orders; positions = kept-with_row _ limit row lists.positions k.positions; waiting = waiting; checkin_lists = checkin_lists; checkins = checkins }
  kept_after_change (PutWaiting row) = record { vouchers = vouchers; carts = carts; orders = orders; positions = positions; waiting = kept-with_row _ limit row lists.waiting k.waiting; checkin_lists = checkin_lists; checkins = checkins }
  kept_after_change (DropVoucher id) = record { vouchers = kept-without_row _ limit id lists.vouchers k.vouchers; carts = carts; orders = orders; positions = positions; waiting = waiting; checkin_lists = checkin_lists; checkins = checkins }
  kept_after_change (DropCart id) = record { vouchers = vouchers; carts = kept-without_row _ limit id lists.carts k.carts; orders = orders; positions = positions; waiting = waiting; checkin_lists = checkin_lists; checkins = checkins }
  kept_after_change (DropWaiting id) = record { vouchers = vouchers; carts = carts; orders = orders; positions = positions; waiting = kept-without_row _ limit id lists.waiting k.waiting; checkin_lists = checkin_lists; checkins = checkins }
  kept_after_change (PutCheckinList row) = record { vouchers = vouchers; carts = carts; orders = orders; positions = positions; waiting = waiting; checkin_lists = kept-with_row _ limit row lists.checkin_lists k.checkin_lists; checkins = checkins }
  kept_after_change (PutCheckin row) = record { vouchers = vouchers; carts = carts; orders = orders; positions = positions; waiting = waiting; checkin_lists = checkin_lists; checkins = kept-with_row _ limit row lists.checkins k.checkins }
  kept_after_change _ = record { vouchers = vouchers; carts = carts; orders = orders; positions = positions; waiting = waiting; checkin_lists = checkin_lists; checkins = checkins }

pub kept_after_all : (limit : ℕ) (log : List Change) (lists : Lists) → IsKept limit lists → IsKept (limit + length log) (after_all log lists)
kept_after_all limit [] lists k = rw add-zero k
kept_after_all limit (c ∷ log) lists k =
    let e : limit + suc (length log) ≡ (limit + 1) + length log = omega arith in
    rw e (kept_after_all (limit + 1) log (after_change c lists) (kept_after_change limit lists k c))
