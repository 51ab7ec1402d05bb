-- What a scan moves: at most the place of its own ticket, in quotas that release places.
use Rattle.std.proofs.Common.{◌≡◌, ℕ, ◌+◌, ◌≤◌, inl, inr, Bool, true, false, not, ◌&&◌, List, Option, Some, None, Ok, refl, sym, ap, ◌∙◌, subst, arith}
use Rattle.base_tables.specs.Tables.{row_at, sum_at, AreInOrder}
use Rattle.model_catalogue.specs.declared.rows.Quota.{Quota}
use Rattle.model_catalogue.specs.Member.{is_in}
use Rattle.model_rows.specs.declared.rows.Checkin.{Checkin}
use Rattle.model_rows.specs.declared.rows.CheckinKind.{CheckinKind}
use Rattle.model_rows.specs.declared.rows.CheckinKind.TheVariants.{Entry, Exit}
use Rattle.model_rows.specs.declared.rows.Order.{Order}
use Rattle.model_rows.specs.declared.rows.OrderPos.{OrderPos}
use Rattle.model_rows.specs.declared.rows.Status.{Status}
use Rattle.model_rows.specs.declared.rows.Status.TheVariants.{Pending, Paid, Expired, Cancelled}
use Rattle.model_rows.specs.declared.changes.Change.TheVariants.{PutCheckin}
use Rattle.model_rows.specs.Conditions.{is_paid}
use Rattle.model_rows.specs.Lists.{Lists, State, order_at, position_at, checkin_at}
use Rattle.model_rows.specs.Numbered.{with_checkin}
use Rattle.model_rows.specs.Change.{after_change}
use Rattle.model_rows.specs.Passages.{is_entry, is_exit, is_out}
use Rattle.model_rows.specs.Usage.{usage_of, stands_as, holds_place, takes_place}
use Rattle.model_rows.specs.Takes.{places_used}
use Rattle.model_rows.specs.Total.{total}
use Rattle.model_rows.proofs.EachRow.{next_absent}
use Rattle.model_rows.proofs.Exits.{place_shift}
use Rattle.model_rows.proofs.LastPassages.{exit_keeps_out, entry_keeps_in}
use Rattle.model_rows.proofs.Time.{one}
use Rattle.model_invariant.specs.Sound.{IsSound}
use Rattle.model_commands.specs.FitRequests.{IsFitScan}
use Rattle.model_commands.specs.declared.doors.Scan.{Scan}
use Rattle.model_commands.specs.declared.doors.Ticket.{Ticket}
use Rattle.decide_door.specs.Places.{has_gone, IsReleasing}
use Rattle.decide_door.specs.Scanned.{checkin_row, ticket_scanned}
use Rattle.decide_door.proofs.Admitted.{IsEitherOf, shown_stands, admitted_is, admitted_sound}

-- the place that a position takes, in the quota or not, by its order, where it is out or not, and the quota releases it or not
abbrev pub place : Option Order → Bool → Bool → Bool → ℕ
place order inside releases out = one (stands_as (λ s. holds_place s (releases && out)) order && inside)

pub place_is_one : (order : Option Order) (inside releases out : Bool) → place order inside releases out ≤ 1
place_is_one order inside releases out = by_test (stands_as (λ s. holds_place s (releases && out)) order && inside)
  where
    by_test : (b : Bool) → one b ≤ 1
    by_test true = omega arith
    by_test false = omega arith

-- who is out takes no more than who is in
pub out_takes_less : (order : Option Order) (inside releases out : Bool) → place order inside releases out ≤ place order inside releases false
out_takes_less None inside releases out = omega arith
out_takes_less (Some o) inside releases out = by_status o.status inside releases out
  where
    by_status : (s : Status) (i r o : Bool) → one (holds_place s (r && o) && i) ≤ one (holds_place s (r && false) && i)
    by_status Pending i r o = omega arith
    by_status Paid i false o = omega arith
    by_status Paid i true false = omega arith
    by_status Paid i true true = omega arith
    by_status Expired i r o = omega arith
    by_status Cancelled i r o = omega arith

-- a quota that keeps its places
pub kept_place : (order : Option Order) (inside releases out other : Bool) → releases ≡ false → place order inside releases out ≡ place order inside releases other
kept_place order inside true out other closed = absurd (cc (closed))
kept_place order inside false out other closed = refl

-- a paid ticket, in a quota that releases places
pub paid_place : (order : Option Order) (inside releases out : Bool) → stands_as is_paid order ≡ true → inside ≡ true → releases ≡ true → place order inside releases out ≡ one (not out)
paid_place None inside releases out paid is_inside opens = absurd (cc (paid))
paid_place (Some o) false releases out paid is_inside opens = absurd (cc (is_inside))
paid_place (Some o) true false out paid is_inside opens = absurd (cc (opens))
paid_place (Some o) true true out paid is_inside opens = by_status o.status out paid
  where
    by_status : (s : Status) (x : Bool) → is_paid s ≡ true → one (holds_place s x && true) ≡ one (not x)
    by_status Pending x h = absurd (cc (h))
    by_status Paid true h = refl
    by_status Paid false h = refl
    by_status Expired x h = absurd (cc (h))
    by_status Cancelled x h = absurd (cc (h))

pub entry_is_no_exit : (kind : CheckinKind) → is_entry kind ≡ true → is_exit kind ≡ false
entry_is_no_exit Entry e = refl
entry_is_no_exit Exit e = absurd (cc (e))

pub no_entry_is_exit : (kind : CheckinKind) → is_entry kind ≡ false → is_exit kind ≡ true
no_entry_is_exit Entry e = absurd (cc (e))
no_entry_is_exit Exit e = refl

-- the place of the ticket before and after comes and goes
pub checkin_moves : (row : Checkin) (lists : Lists) (at : ℕ) (quota : Quota) (p : OrderPos) → checkin_at row.id lists ≡ None → AreInOrder (λ q. q.id) lists.positions → position_at row.position lists ≡ Some p
    → total (usage_of (after_change (PutCheckin row) lists) at quota) + one (takes_place lists quota p) ≡ total (usage_of lists at quota) + one (takes_place (after_change (PutCheckin row) lists) quota p)
checkin_moves row lists at quota p new order stands =
    let shift = place_shift row lists new order quota at in
    let before = ap (λ (o : Option OrderPos). sum_at (λ q. one (takes_place lists quota q)) o) stands in
    let after = ap (λ (o : Option OrderPos). sum_at (λ q. one (takes_place (after_change (PutCheckin row) lists) quota q)) o) stands in
    omega (arith, shift, before, after)

-- the next check-in's id is new
pub next_is_new : (state : State) → IsSound state → checkin_at state.next.checkin state.lists ≡ None
next_is_new state sound = next_absent (λ (c : Checkin). c.id) state.next.checkin state.lists.checkins sound.ids.checkins.below

module _ (list : ℕ) (ticket : Ticket) (scan : Scan) (before after : State) (position : OrderPos) (sound : IsSound before) (h : ticket_scanned list ticket scan before ≡ Ok (after, position)) where
  abbrev row : Checkin
  row = checkin_row list position scan before

  new_id : checkin_at row.id before.lists ≡ None
  new_id = next_is_new before sound

  shown : position_at position.id before.lists ≡ Some position
  shown = shown_stands ticket before.lists position sound.ids.positions.in_order (admitted_is list ticket scan before after position h).0.shown

  -- where it holds of the box office as it was, and with the check-in put, it holds afterwards
  in_either : (P : State → Type 0) → P before → P (with_checkin row before) → P after
  in_either P was is = by_kind (admitted_is list ticket scan before after position h).1
    where
      by_kind : IsEitherOf list scan before after position → P after
      by_kind (inl same) = subst P same.1 was
      by_kind (inr made) = subst P made.is_after is

  -- the ticket's place, where it is out or not
  abbrev place_in : Quota → Bool → ℕ
  place_in quota out = place (order_at position.order before.lists) (is_in quota position.product) quota.release_after_exit out

  -- its place before and after comes and goes
  scan_moves : (quota : Quota) → places_used after quota + place_in quota (has_gone position before) ≡ places_used before quota + place_in quota (has_gone position after)
  scan_moves quota = in_either (λ s. places_used s quota + place_in quota (has_gone position before) ≡ places_used before quota + place_in quota (has_gone position s)) refl (checkin_moves row before.lists before.moment quota position new_id sound.ids.positions.in_order shown)

  stays_out : is_exit scan.kind ≡ true → has_gone position before ≡ true → has_gone position after ≡ true
  stays_out exit out = in_either (λ s. has_gone position s ≡ true) out (exit_keeps_out position.id row before.lists.checkins new_id exit out)

  stays_in : is_exit scan.kind ≡ false → has_gone position before ≡ false → has_gone position after ≡ false
  stays_in entry inside = in_either (λ s. has_gone position s ≡ false) inside (entry_keeps_in position.id row before.lists.checkins new_id entry inside)

  -- a ticket that is in or out as it was
  pub unmoved_used : (quota : Quota) → has_gone position after ≡ has_gone position before → places_used after quota ≡ places_used before quota
  unmoved_used quota same = omega (arith, scan_moves quota, ap (λ (b : Bool). place_in quota b) same)

  -- a quota that keeps its places
  pub kept_used : (quota : Quota) → quota.release_after_exit ≡ false → places_used after quota ≡ places_used before quota
  kept_used quota closed = omega (arith, scan_moves quota, kept_place (order_at position.order before.lists) (is_in quota position.product) quota.release_after_exit (has_gone position before) (has_gone position after) closed)

  -- an exit
  pub exit_used : (quota : Quota) → is_exit scan.kind ≡ true → places_used after quota ≤ places_used before quota
  exit_used quota exit = by_out (has_gone position before) refl
    where
      by_out : (out : Bool) → has_gone position before ≡ out → places_used after quota ≤ places_used before quota
      by_out true e = omega (arith, unmoved_used quota (stays_out exit e ∙ sym e))
      by_out false e = omega (arith, scan_moves quota, ap (λ (b : Bool). place_in quota b) e, out_takes_less (order_at position.order before.lists) (is_in quota position.product) quota.release_after_exit (has_gone position after))

  -- an entry, or an exit
  pub entry_used : (quota : Quota) → places_used after quota ≤ places_used before quota + 1
  entry_used quota = omega (arith, scan_moves quota, place_is_one (order_at position.order before.lists) (is_in quota position.product) quota.release_after_exit (has_gone position after))

  -- an entry of who is in
  pub inside_used : (quota : Quota) → is_entry scan.kind ≡ true → has_gone position before ≡ false → places_used after quota ≡ places_used before quota
  inside_used quota entry inside = unmoved_used quota (stays_in (entry_is_no_exit scan.kind entry) inside ∙ sym inside)

  paid_place_in : (quota : Quota) (out : Bool) → IsReleasing quota position before.lists → place_in quota out ≡ one (not out)
  paid_place_in quota out open_to = paid_place (order_at position.order before.lists) (is_in quota position.product) quota.release_after_exit out open_to.paid open_to.inside open_to.releases

  -- who goes out sets a place free
  pub place_freed : (quota : Quota) → IsReleasing quota position before.lists → has_gone position before ≡ false → has_gone position after ≡ true → places_used after quota + 1 ≡ places_used before quota
  place_freed quota releasing inside gone = omega (arith, scan_moves quota, paid_place_in quota (has_gone position before) releasing, paid_place_in quota (has_gone position after) releasing, ap (λ (b : Bool). one (not b)) inside, ap (λ (b : Bool). one (not b)) gone)

  -- who comes in again takes it back
  pub place_taken_back : (quota : Quota) → IsReleasing quota position before.lists → has_gone position before ≡ true → has_gone position after ≡ false → places_used after quota ≡ places_used before quota + 1
  place_taken_back quota releasing gone inside = omega (arith, scan_moves quota, paid_place_in quota (has_gone position before) releasing, paid_place_in quota (has_gone position after) releasing, ap (λ (b : Bool). one (not b)) gone, ap (λ (b : Bool). one (not b)) inside)

  -- a scan leaves the orders
  same_orders : after.lists.orders ≡ before.lists.orders
  same_orders = in_either (λ s. s.lists.orders ≡ before.lists.orders) refl refl

-- what is used is told by where the ticket is, whatever scans it had in between
pub both_used : (list other : ℕ) (ticket again : Ticket) (first second : Scan) (before between after : State) (position : OrderPos) (quota : Quota) → IsFitScan first → IsSound before
    → ticket_scanned list ticket first before ≡ Ok (between, position) → ticket_scanned other again second between ≡ Ok (after, position) → has_gone position after ≡ has_gone position before → places_used after quota ≡ places_used before quota
both_used list other ticket again first second before between after position quota fit sound h k same =
    let sound_between = admitted_sound list ticket first before between position fit sound h in
    let once = scan_moves list ticket first before between position sound h quota in
    let twice = scan_moves other again second between after position sound_between k quota in
    let orders = same_orders list ticket first before between position sound h in
    let at_first = ap (λ (os : List Order). place (row_at (λ o. o.id) position.order os) (is_in quota position.product) quota.release_after_exit (has_gone position between)) orders in
    let at_last = ap (λ (os : List Order). place (row_at (λ o. o.id) position.order os) (is_in quota position.product) quota.release_after_exit (has_gone position after)) orders in
    let ends = ap (λ (b : Bool). place (order_at position.order before.lists) (is_in quota position.product) quota.release_after_exit b) same in
    omega (arith, once, twice, at_first, at_last, ends)
