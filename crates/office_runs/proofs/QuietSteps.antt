-- Steps that take no places: sending, periodic work, and the doors.
use Rattle.std.proofs.Common.{◌≡◌, ℕ, ◌≤◌, inl, inr, Bool, true, false, ◌&&◌, List, [], ◌∷◌, Some, Ok, refl, subst, arith}
use Rattle.std.specs.Prelude.{filter, if◌then◌else◌}
use Rattle.std.specs.List.{AllByRecursion}
use Rattle.base_values.specs.declared.draw.Draw.{Draw}
use Rattle.model_catalogue.specs.declared.rows.Quota.{Quota}
use Rattle.model_catalogue.specs.CatalogueLists.{quota_at}
use Rattle.model_rows.specs.declared.rows.CheckinList.{CheckinList}
use Rattle.model_rows.specs.declared.rows.OrderPos.{OrderPos}
use Rattle.model_rows.specs.declared.rows.Waiting.{Waiting}
use Rattle.model_rows.specs.Lists.{State}
use Rattle.model_rows.specs.Passages.{is_entry}
use Rattle.model_rows.specs.Takes.{places_used}
use Rattle.model_rows.specs.Usage.{has_none}
use Rattle.model_invariant.specs.Sound.{IsSound}
use Rattle.model_commands.specs.declared.doors.NewCheckinList.{NewCheckinList}
use Rattle.model_commands.specs.declared.doors.Scan.{Scan}
use Rattle.model_commands.specs.declared.doors.Ticket.{Ticket}
use Rattle.decide_orders.specs.Expired.{orders_expired}
use Rattle.decide_orders.proofs.Expires.{expired_sound, expired_lowers, dropped_carts_lower}
use Rattle.decide_waiting.specs.Serving.{in_turn, queue, is_served, served_after, entries_served, all_sent, all_served}
use Rattle.decide_waiting.proofs.Queue.{all_in_turn, filtered_weaker}
use Rattle.decide_waiting.proofs.Sent.{serving_keeps_used}
use Rattle.decide_door.specs.ListAdded.{list_added}
use Rattle.decide_door.specs.Scanned.{checkin_row, ticket_scanned}
use Rattle.decide_door.proofs.Added.{added_is, added_id}
use Rattle.decide_door.proofs.Admitted.{IsEitherOf, admitted_is}
use Rattle.decide_door.proofs.Places.{kept_used, exit_used, no_entry_is_exit}
use Rattle.office_runs.specs.NewIds.{AllIdsGoOn}
use Rattle.office_step.specs.PeriodicWork.{pending_ended, periodic_done}
use Rattle.office_step.proofs.SoundSteps.{ended_sound}
use Rattle.office_runs.proofs.CatalogueLowers.{as_before}
use Rattle.office_runs.proofs.NewIds.{all_same, all_more, stands_in, each_stands, ended_ids, all_sent_ids, new_checkin_list, new_checkin}

-- ---- sending and serving

-- those who are served are among those who wait
served_among : (P : Waiting → Type 0) (state : State) (before entries : List Waiting) → AllByRecursion P entries → AllByRecursion P (served_after state before entries)
served_among P state before [] h = tt
served_among P state before (e ∷ es) h = by_served (is_served state before e) (served_among P state (e ∷ before) es h.1) (served_among P state before es h.1)
  where
    by_served : (b : Bool) → AllByRecursion P (served_after state (e ∷ before) es) → AllByRecursion P (served_after state before es) → AllByRecursion P (if b then e ∷ served_after state (e ∷ before) es else served_after state before es)
    by_served true after others = (h.0, after)
    by_served false after others = others

served_stand : (state : State) → AllByRecursion (λ e. stands_in state e.id ≡ true) (entries_served state)
unfolding entries_served queue
served_stand state =
    let P : Waiting → Type 0 = λ e. stands_in state e.id ≡ true in
    served_among P state [] (in_turn (filter (λ e. has_none e.voucher) state.lists.waiting))
    (all_in_turn P (filter (λ e. has_none e.voucher) state.lists.waiting) (filtered_weaker (λ e. has_none e.voucher) P state.lists.waiting (each_stands (λ (r : Waiting). r.id) state.lists.waiting)))

-- ---- periodic work

pub worked_ids : (draw : Draw) (state : State) → AllIdsGoOn state (periodic_done draw state).0
unfolding all_served
worked_ids draw state = all_more state (pending_ended state) (all_sent draw (entries_served (pending_ended state)) (pending_ended state)) (ended_ids state) (all_sent_ids draw (entries_served (pending_ended state)) (pending_ended state) (served_stand (pending_ended state)))

no_more : (a b c d : ℕ) → a ≡ b → b ≤ c → c ≤ d → a ≤ d
no_more a b c d e f g = omega (arith, e, f, g)

pub worked_lowers : (draw : Draw) (state : State) → IsSound state → (quota : Quota) → quota_at quota.id state.lists.catalogue ≡ Some quota → places_used (periodic_done draw state).0 quota ≤ places_used state quota
worked_lowers draw state sound quota stands =
    no_more (places_used (periodic_done draw state).0 quota) (places_used (pending_ended state) quota) (places_used (orders_expired state) quota) (places_used state quota)
    (serving_keeps_used draw quota (pending_ended state) (ended_sound state sound))
    (dropped_carts_lower quota (orders_expired state) (expired_sound state sound).ids.carts.in_order)
    (expired_lowers quota state stands sound)

-- ---- the doors

pub list_ids : (new : NewCheckinList) (state after : State) (row : CheckinList) → list_added new state ≡ Ok (after, row) → AllIdsGoOn state after
list_ids new state after row h = subst (λ (s : State). AllIdsGoOn state s) (added_is new state after row h).is_after (new_checkin_list state row (added_id new state after row h))

pub scanned_ids : (list : ℕ) (ticket : Ticket) (scan : Scan) (state after : State) (position : OrderPos) → ticket_scanned list ticket scan state ≡ Ok (after, position) → AllIdsGoOn state after
scanned_ids list ticket scan state after position h = by_kind (admitted_is list ticket scan state after position h).1
  where
    by_kind : IsEitherOf list scan state after position → AllIdsGoOn state after
    by_kind (inl same) = subst (λ (s : State). AllIdsGoOn state s) same.1 (all_same state)
    by_kind (inr made) = subst (λ (s : State). AllIdsGoOn state s) made.is_after (new_checkin state (checkin_row list position scan state) refl)

-- a scan raises what is used of a quota only where it is an entry, and the quota releases places
pub scan_lowers : (list : ℕ) (ticket : Ticket) (scan : Scan) (state after : State) (position : OrderPos) → IsSound state → ticket_scanned list ticket scan state ≡ Ok (after, position)
    → (quota : Quota) → (quota.release_after_exit && is_entry scan.kind) ≡ false → places_used after quota ≤ places_used state quota
scan_lowers list ticket scan state after position sound h quota none = by_release quota.release_after_exit refl none
  where
    by_release : (releases : Bool) → quota.release_after_exit ≡ releases → (releases && is_entry scan.kind) ≡ false → places_used after quota ≤ places_used state quota
    by_release true is e = exit_used list ticket scan state after position sound h quota (no_entry_is_exit scan.kind e)
    by_release false is e = as_before (places_used after quota) (places_used state quota) (kept_used list ticket scan state after position sound h quota is)
