-- What is kept beside quotas while changes come.
use Rattle.std.proofs.Common.{◌≡◌, ℕ, ◌≤◌, true, false, cond, ◌==◌, List, [], ◌∷◌, ◌++◌, reverse, map, Some, None, refl, sym, ap, subst, ◌∙◌}
use Rattle.std.specs.List.{AllByRecursion}
use Rattle.std.proofs.lemmas.List.{reverse-append, reverse-reverse}
use Rattle.base_tables.specs.Tables.{row_at, AreInOrder}
use Rattle.base_tables.proofs.Edits.{row_at-with_row}
use Rattle.model_catalogue.specs.declared.rows.Quota.{Quota}
use Rattle.model_rows.specs.declared.rows.Usage.{Usage}
use Rattle.model_rows.specs.declared.changes.Change.{Change}
use Rattle.model_rows.specs.declared.changes.Change.TheVariants.{PutItem, PutVariation, PutQuota, PutVoucher, PutCart, PutOrder, PutPosition, PutWaiting, DropVoucher, DropCart, DropWaiting, PutCheckinList, PutCheckin}
use Rattle.model_rows.specs.Change.{after_change}
use Rattle.model_rows.specs.Lists.{Lists, State}
use Rattle.model_rows.specs.Usage.{usage_of}
use Rattle.model_rows.proofs.EachRow.{all-with_row, all-without_row}
use Rattle.model_rows.proofs.Found.{each_found}
use Rattle.model_rows.specs.declared.rows.CartPos.{CartPos}
use Rattle.model_rows.specs.declared.rows.Voucher.{Voucher}
use Rattle.book_counts_over_time.specs.Held.{AreHeld}
use Rattle.model_rows.specs.Lists.{voucher_at}
use Rattle.model_rows.specs.Usage.{redeemed, spent}
use Rattle.model_rows.specs.declared.rows.OrderPos.{OrderPos}
use Rattle.book_counts_over_time.specs.Spends.{AreSpent}
use Rattle.book_counts_applied.specs.Settled.{nothing, used_at, used_if, redeemed_at, redeemed_if, spent_at, spent_if, ArePutsNew, AreSmall}
use Rattle.book_counts_applied.proofs.Puts.{same_map_where}

-- no quota goes
pub none_goes : (id : ℕ) (change : Change) (lists : Lists) → row_at (λ q. q.id) id (after_change change lists).catalogue.quotas ≡ None → row_at (λ q. q.id) id lists.catalogue.quotas ≡ None
none_goes id (PutQuota row) lists e =
    elim (row.id == id) as (λ b. cond b (Some row) (row_at (λ q. q.id) id lists.catalogue.quotas) ≡ None → row_at (λ q. q.id) id lists.catalogue.quotas ≡ None) [
      | true ↦ λ f. absurd cc
      | false ↦ λ f. f
    ] (sym (row_at-with_row (λ q. q.id) id row lists.catalogue.quotas) ∙ e)
none_goes id (PutItem row) lists e = e
none_goes id (PutVariation row) lists e = e
none_goes id (PutVoucher row) lists e = e
none_goes id (PutCart row) lists e = e
none_goes id (PutOrder row) lists e = e
none_goes id (PutPosition row) lists e = e
none_goes id (PutWaiting row) lists e = e
none_goes id (DropVoucher gone) lists e = e
none_goes id (DropCart gone) lists e = e
none_goes id (DropWaiting gone) lists e = e
none_goes id (PutCheckinList row) lists e = e
none_goes id (PutCheckin row) lists e = e

-- the usages by id
pub by_id : (state : State) (us : List Usage) → AreInOrder (λ q. q.id) state.lists.catalogue.quotas → us ≡ map (usage_of state.lists state.moment) state.lists.catalogue.quotas → us ≡ map (λ q. used_at state q.id) state.lists.catalogue.quotas
by_id state us order is =
    is ∙ same_map_where (λ (q : Quota). row_at (λ r. r.id) q.id state.lists.catalogue.quotas ≡ Some q) (usage_of state.lists state.moment) (λ q. used_at state q.id) state.lists.catalogue.quotas
    (λ q found. sym (ap (used_if state) found)) (each_found (λ (q : Quota). q.id) 0 state.lists.catalogue.quotas order)

pub none_used : (state : State) (id : ℕ) → row_at (λ q. q.id) id state.lists.catalogue.quotas ≡ None → used_at state id ≡ nothing
none_used state id none = ap (used_if state) none

-- changes that are taken from the end of a list that was turned round
pub turned : (list new : List Change) → new ≡ reverse list → reverse new ≡ list
turned list new is = ap reverse is ∙ reverse-reverse list

pub taken : (list new : List Change) (change : Change) → list ≡ new ++ change ∷ [] → reverse list ≡ change ∷ reverse new
taken list new change is = ap reverse is ∙ reverse-append new (change ∷ [])

-- only a put or dropped voucher changes the vouchers
pub vouchers_stay : (change : Change) (lists : Lists) → ((row : Voucher) → change ≡ PutVoucher row → ⊥) → ((id : ℕ) → change ≡ DropVoucher id → ⊥) → (after_change change lists).vouchers ≡ lists.vouchers
vouchers_stay (PutItem row) lists not_put not_dropped = refl
vouchers_stay (PutVariation row) lists not_put not_dropped = refl
vouchers_stay (PutQuota row) lists not_put not_dropped = refl
vouchers_stay (PutVoucher row) lists not_put not_dropped = absurd (not_put row refl)
vouchers_stay (PutCart row) lists not_put not_dropped = refl
vouchers_stay (PutOrder row) lists not_put not_dropped = refl
vouchers_stay (PutPosition row) lists not_put not_dropped = refl
vouchers_stay (PutWaiting row) lists not_put not_dropped = refl
vouchers_stay (DropVoucher id) lists not_put not_dropped = absurd (not_dropped id refl)
vouchers_stay (DropCart id) lists not_put not_dropped = refl
vouchers_stay (DropWaiting id) lists not_put not_dropped = refl
vouchers_stay (PutCheckinList row) lists not_put not_dropped = refl
vouchers_stay (PutCheckin row) lists not_put not_dropped = refl

-- how often they are redeemed, by id
pub redeemed_by_id : (state : State) (rs : List ℕ) → AreInOrder (λ v. v.id) state.lists.vouchers → rs ≡ map (λ v. redeemed v.id state.lists) state.lists.vouchers → rs ≡ map (λ v. redeemed_at state v.id) state.lists.vouchers
redeemed_by_id state rs order is =
    is ∙ same_map_where (λ (v : Voucher). row_at (λ r. r.id) v.id state.lists.vouchers ≡ Some v) (λ v. redeemed v.id state.lists) (λ v. redeemed_at state v.id) state.lists.vouchers
    (λ v found. sym (ap (redeemed_if state) found)) (each_found (λ (v : Voucher). v.id) 0 state.lists.vouchers order)

-- what is spent of them, by id
pub spent_by_id : (state : State) (ss : List ℕ) → AreInOrder (λ v. v.id) state.lists.vouchers → AreSpent state.lists ss → ss ≡ map (λ v. spent_at state v.id) state.lists.vouchers
spent_by_id state ss order is =
    is ∙ same_map_where (λ (v : Voucher). row_at (λ r. r.id) v.id state.lists.vouchers ≡ Some v) (λ v. spent v.id state.lists) (λ v. spent_at state v.id) state.lists.vouchers
    (λ v found. sym (ap (spent_if state) found)) (each_found (λ (v : Voucher). v.id) 0 state.lists.vouchers order)

-- of changes whose puts are new the first is such, and so are the others
pub first_new : (kept : ℕ → ℕ) (change : Change) (changes : List Change) (lists : Lists) → ArePutsNew kept (change ∷ changes) lists → (row : Voucher) → change ≡ PutVoucher row → voucher_at row.id lists ≡ None → kept row.id ≡ 0
first_new kept (PutVoucher put) changes lists new row is none =
    let same : put ≡ row = cc is in
    subst (λ (v : Voucher). voucher_at v.id lists ≡ None → kept v.id ≡ 0) same new.0 none
first_new kept (PutItem put) changes lists new row is none = absurd (cc is)
first_new kept (PutVariation put) changes lists new row is none = absurd (cc is)
first_new kept (PutQuota put) changes lists new row is none = absurd (cc is)
first_new kept (PutCart put) changes lists new row is none = absurd (cc is)
first_new kept (PutOrder put) changes lists new row is none = absurd (cc is)
first_new kept (PutPosition put) changes lists new row is none = absurd (cc is)
first_new kept (PutWaiting put) changes lists new row is none = absurd (cc is)
first_new kept (DropVoucher id) changes lists new row is none = absurd (cc is)
first_new kept (DropCart id) changes lists new row is none = absurd (cc is)
first_new kept (DropWaiting id) changes lists new row is none = absurd (cc is)
first_new kept (PutCheckinList put) changes lists new row is none = absurd (cc is)
first_new kept (PutCheckin put) changes lists new row is none = absurd (cc is)

pub others_new : (kept : ℕ → ℕ) (change : Change) (changes : List Change) (lists : Lists) → ArePutsNew kept (change ∷ changes) lists → ArePutsNew kept changes (after_change change lists)
others_new kept (PutVoucher put) changes lists new = new.1
others_new kept (PutItem put) changes lists new = new
others_new kept (PutVariation put) changes lists new = new
others_new kept (PutQuota put) changes lists new = new
others_new kept (PutCart put) changes lists new = new
others_new kept (PutOrder put) changes lists new = new
others_new kept (PutPosition put) changes lists new = new
others_new kept (PutWaiting put) changes lists new = new
others_new kept (DropVoucher id) changes lists new = new
others_new kept (DropCart id) changes lists new = new
others_new kept (DropWaiting id) changes lists new = new
others_new kept (PutCheckinList put) changes lists new = new
others_new kept (PutCheckin put) changes lists new = new

-- what isn't of cart positions or vouchers changes no number of holds
pub held_stays : (change : Change) (lists : Lists) (at : ℕ) (holds : List ℕ) → ((row : Voucher) → change ≡ PutVoucher row → ⊥) → ((id : ℕ) → change ≡ DropVoucher id → ⊥) → ((row : CartPos) → change ≡ PutCart row → ⊥) → ((id : ℕ) → change ≡ DropCart id → ⊥) → AreHeld lists at holds → AreHeld (after_change change lists) at holds
held_stays (PutItem row) lists at holds a b c d h = h
held_stays (PutVariation row) lists at holds a b c d h = h
held_stays (PutQuota row) lists at holds a b c d h = h
held_stays (PutVoucher row) lists at holds a b c d h = absurd (a row refl)
held_stays (PutCart row) lists at holds a b c d h = absurd (c row refl)
held_stays (PutOrder row) lists at holds a b c d h = h
held_stays (PutPosition row) lists at holds a b c d h = h
held_stays (PutWaiting row) lists at holds a b c d h = h
held_stays (DropVoucher id) lists at holds a b c d h = absurd (b id refl)
held_stays (DropCart id) lists at holds a b c d h = absurd (d id refl)
held_stays (DropWaiting id) lists at holds a b c d h = h
held_stays (PutCheckinList row) lists at holds a b c d h = h
held_stays (PutCheckin row) lists at holds a b c d h = h

-- only a put order position changes the order positions
positions_stay : (change : Change) (lists : Lists) → ((row : OrderPos) → change ≡ PutPosition row → ⊥) → (after_change change lists).positions ≡ lists.positions
positions_stay (PutItem row) lists not_put = refl
positions_stay (PutVariation row) lists not_put = refl
positions_stay (PutQuota row) lists not_put = refl
positions_stay (PutVoucher row) lists not_put = refl
positions_stay (PutCart row) lists not_put = refl
positions_stay (PutOrder row) lists not_put = refl
positions_stay (PutPosition row) lists not_put = absurd (not_put row refl)
positions_stay (PutWaiting row) lists not_put = refl
positions_stay (DropVoucher id) lists not_put = refl
positions_stay (DropCart id) lists not_put = refl
positions_stay (DropWaiting id) lists not_put = refl
positions_stay (PutCheckinList row) lists not_put = refl
positions_stay (PutCheckin row) lists not_put = refl

pub small_put : (row : Voucher) (lists : Lists) → row.max_usages ≤ 4294967295 → AreSmall lists → AreSmall (after_change (PutVoucher row) lists)
small_put row lists most h = record { uses = all-with_row (λ r. r.id) (λ v. v.max_usages ≤ 4294967295) row lists.vouchers most h.uses; discounts = h.discounts }

pub small_drop : (id : ℕ) (lists : Lists) → AreSmall lists → AreSmall (after_change (DropVoucher id) lists)
small_drop id lists h = record { uses = all-without_row (λ r. r.id) (λ v. v.max_usages ≤ 4294967295) id lists.vouchers h.uses; discounts = h.discounts }

pub small_position : (row : OrderPos) (lists : Lists) → row.discount ≤ 9999999999 → AreSmall lists → AreSmall (after_change (PutPosition row) lists)
small_position row lists most h = record { uses = h.uses; discounts = all-with_row (λ r. r.id) (λ p. p.discount ≤ 9999999999) row lists.positions most h.discounts }

pub small_stays : (change : Change) (lists : Lists) → ((row : Voucher) → change ≡ PutVoucher row → ⊥) → ((id : ℕ) → change ≡ DropVoucher id → ⊥) → ((row : OrderPos) → change ≡ PutPosition row → ⊥) → AreSmall lists → AreSmall (after_change change lists)
small_stays change lists not_put not_dropped not_sold h = record {
  uses = subst (λ (l : List Voucher). AllByRecursion (λ v. v.max_usages ≤ 4294967295) l) (sym (vouchers_stay change lists not_put not_dropped)) h.uses;
  discounts = subst (λ (l : List OrderPos). AllByRecursion (λ p. p.discount ≤ 9999999999) l) (sym (positions_stay change lists not_sold)) h.discounts;
}
