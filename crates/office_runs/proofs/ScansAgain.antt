-- A scan that is sent again, after whatever commands.
use Rattle.std.proofs.Common.{◌≡◌, ℕ, Bool, true, false, List, [], ◌∷◌, ◌++◌, Option, Some, None, Result, Ok, Err, refl, sym, ap, ◌∙◌}
use Rattle.std.specs.Prelude.{◌||◌, ◌==◌, is_some, find, if◌then◌else◌}
use Rattle.std.specs.List.{list_any, AllByRecursion}
use Rattle.base_values.specs.Texts.{same_text}
use Rattle.base_values.specs.declared.draw.Draw.{Draw}
use Rattle.model_rows.specs.declared.rows.OrderPos.{OrderPos}
use Rattle.model_rows.specs.Lists.{State, checkin_list_at}
use Rattle.model_invariant.specs.Sound.{IsSound}
use Rattle.model_commands.specs.declared.doors.DoorRefusal.{DoorRefusal}
use Rattle.model_commands.specs.declared.doors.Scan.{Scan}
use Rattle.model_commands.specs.declared.doors.Ticket.{Ticket}
use Rattle.model_commands.specs.declared.doors.Ticket.TheVariants.{Position, Secret, Unreadable}
use Rattle.model_commands.specs.declared.replies.Reply.TheVariants.{Admitted}
use Rattle.decide_door.specs.Scanned.{ticket_scanned}
use Rattle.decide_door.specs.Valid.{IsStillGood}
use Rattle.decide_door.specs.Verdict.{shown_by, is_stored}
use Rattle.decide_door.proofs.Admitted.{admitted_is}
use Rattle.decide_door.proofs.Again.{scan_stores, scan_repeated}
use Rattle.office_runs.specs.Doors.{DoorGrows}
use Rattle.office_runs.specs.Promises.{HasNoncesOnce, scan_comes, AddsNothing}
use Rattle.office_runs.specs.Runs.{Arrival, IsFitArrival, office_stepped, trace, after_run}
use Rattle.office_step.specs.Step.{redeem_step, moment_at}
use Rattle.office_runs.proofs.DoorTables.{door_more, door_still, door_step}
use Rattle.office_runs.proofs.Runs.{sound_at, sound_after}

-- what is found, or stored, stays so where rows are added behind
found_before : {T : Type 0} (test : T → Bool) (row : T) (rows more : List T) → find test rows ≡ Some row → find test (rows ++ more) ≡ Some row
found_before test row [] more e = absurd (cc (e))
found_before {T} test row (r ∷ rs) more e = by_test (test r) e (found_before test row rs more)
  where
    by_test : (b : Bool) → (if b then Some r else find test rs) ≡ Some row → (find test rs ≡ Some row → find test (rs ++ more) ≡ Some row) → (if b then Some r else find test (rs ++ more)) ≡ Some row
    by_test true e on = e
    by_test false e on = on e

any_before : {T : Type 0} (test : T → Bool) (rows more : List T) → list_any test rows ≡ true → list_any test (rows ++ more) ≡ true
any_before test [] more e = absurd (cc (e))
any_before {T} test (r ∷ rs) more e = by_test (test r) e (any_before test rs more)
  where
    by_test : (b : Bool) → (b || list_any test rs) ≡ true → (list_any test rs ≡ true → list_any test (rs ++ more) ≡ true) → (b || list_any test (rs ++ more)) ≡ true
    by_test true e on = refl
    by_test false e on = on e

module _ (before after : State) (grows : DoorGrows before after) where
  list_stays : (list : ℕ) → is_some (checkin_list_at list before.lists) ≡ true → checkin_list_at list after.lists ≡ checkin_list_at list before.lists
  list_stays list stands = by_found (checkin_list_at list before.lists) refl stands
    where
      by_found : (found : Option _) → checkin_list_at list before.lists ≡ found → is_some found ≡ true → checkin_list_at list after.lists ≡ checkin_list_at list before.lists
      by_found None e is = absurd (cc (is))
      by_found (Some row) e is = ap (λ rows. find (λ r. r.id == list) rows) grows.lists.is ∙ found_before (λ r. r.id == list) row before.lists.checkin_lists grows.lists.more e ∙ sym e

  shown_still : (ticket : Ticket) (position : OrderPos) → shown_by ticket before.lists ≡ Some position → shown_by ticket after.lists ≡ Some position
  shown_still (Position id) position e = ap (λ (rows : List OrderPos). find (λ p. p.id == id) rows) grows.positions.is ∙ found_before (λ p. p.id == id) position before.lists.positions grows.positions.more e
  shown_still (Secret secret) position e = ap (λ (rows : List OrderPos). find (λ p. same_text p.secret secret) rows) grows.positions.is ∙ found_before (λ p. same_text p.secret secret) position before.lists.positions grows.positions.more e
  shown_still Unreadable position e = absurd (cc (e))

  stored_still : (list position : ℕ) (nonce : Option (List ℕ)) → is_stored list position nonce before.lists.checkins ≡ true → is_stored list position nonce after.lists.checkins ≡ true
  stored_still list position nonce e = ap (λ rows. is_stored list position nonce rows) grows.checkins.is ∙ any_before _ before.lists.checkins grows.checkins.more e

-- runs

door_at : (arrival : Arrival) (state : State) → IsSound state → DoorGrows state (office_stepped arrival state).after
door_at arrival state sound = before_it (door_step arrival.command arrival.draw (record state { moment = moment_at arrival.clock state }) (sound_at arrival state sound))
  where
    before_it : DoorGrows (record state { moment = moment_at arrival.clock state }) (office_stepped arrival state).after → DoorGrows state (office_stepped arrival state).after
    before_it h = record { lists = h.lists; positions = h.positions; checkins = h.checkins }

door_over : (arrivals : List Arrival) (state : State) → AllByRecursion IsFitArrival arrivals → IsSound state → DoorGrows state (after_run arrivals state)
door_over [] state fit sound = door_still state
door_over (arrival ∷ arrivals) state fit sound =
    let next = (office_stepped arrival state).after in
    door_more state next (after_run arrivals next) (door_at arrival state sound) (door_over arrivals next fit.1 (sound_after arrival state fit.0 sound))

pub nonces_all : (arrivals : List Arrival) (state : State) → AllByRecursion IsFitArrival arrivals → IsSound state → AllByRecursion HasNoncesOnce (trace arrivals state)
nonces_all [] state fit sound = tt
nonces_all (arrival ∷ arrivals) state fit sound =
    let after = sound_after arrival state fit.0 sound in
    (after.door.nonces, nonces_all arrivals (office_stepped arrival state).after fit.1 after)

-- a scan that is told a position was let through
let_through : (state : State) (position : OrderPos) (r : Result (State × OrderPos) DoorRefusal) → (redeem_step state r).1 ≡ Admitted position → r ≡ Ok ((redeem_step state r).0, position)
let_through state position (Ok (after, other)) e = let same : other ≡ position = cc (e) in ap (λ (p : OrderPos). Ok (after, p)) same
let_through state position (Err refusal) e = absurd (cc (e))

some_is : {T : Type 0} (found : Option T) (row : T) → found ≡ Some row → is_some found ≡ true
some_is found row e = ap is_some e

module _ (list : ℕ) (ticket : Ticket) (scan : Scan) (position : OrderPos) where
  pub admits_again : (clock later : ℕ) (draw other : Draw) (arrivals : List Arrival) (state : State)
      → IsFitArrival (scan_comes list ticket scan clock draw) → AllByRecursion IsFitArrival arrivals → IsSound state → is_some scan.nonce ≡ true
      → (office_stepped (scan_comes list ticket scan clock draw) state).reply ≡ Admitted position
      → IsStillGood position.order state.lists (after_run arrivals (office_stepped (scan_comes list ticket scan clock draw) state).after).lists
      → AddsNothing position (office_stepped (scan_comes list ticket scan later other) (after_run arrivals (office_stepped (scan_comes list ticket scan clock draw) state).after))
  admits_again clock later draw other arrivals state fit fits sound nonce told good =
      let comes = scan_comes list ticket scan clock draw in
      let first = office_stepped comes state in
      let now : State = record state { moment = moment_at clock state } in
      let end = after_run arrivals first.after in
      let again : State = record end { moment = moment_at later end } in
      let done : ticket_scanned list ticket scan now ≡ Ok (first.after, position) = let_through now position (ticket_scanned list ticket scan now) told in
      let known = (admitted_is list ticket scan now first.after position done).0 in
      let grown = door_over arrivals first.after fits (sound_after comes state fit sound) in
      let whole = door_more state first.after end (door_at comes state sound) grown in
      let repeated : ticket_scanned list ticket scan again ≡ Ok (again, position) =
      scan_repeated list ticket scan now first.after again position done
      (list_stays state end whole list (some_is (checkin_list_at list state.lists) known.by known.found))
      (shown_still state end whole ticket position known.shown)
      (record { old = good.old; new = good.new; stood = good.stood; stands = good.stands; status = good.status })
      (stored_still first.after end grown list position.id scan.nonce (scan_stores list ticket scan now first.after position nonce done)) in
      (ap (λ r. (redeem_step again r).1) repeated, ap (λ r. (redeem_step again r).0) repeated)
