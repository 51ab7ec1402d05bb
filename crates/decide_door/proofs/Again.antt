-- A scan that is sent again.
use Rattle.std.proofs.Common.{◌≡◌, ℕ, ◌<◌, ◌⊎◌, inl, inr, Bool, true, false, ◌||◌, List, [], ◌∷◌, Option, Some, None, Result, Ok, refl, sym, ap, ◌∙◌, subst, arith}
use Rattle.std.specs.Prelude.{◌&&◌, not, ◌==◌, is_some}
use Rattle.std.specs.List.{list_any, AllByRecursion}
use Rattle.std.proofs.lemmas.Bool.Decides.{nat_tests}
use Rattle.base_values.specs.Deciding.{◌>>=◌}
use Rattle.base_tables.specs.Tables.{with_row}
use Rattle.base_values.specs.Texts.{same_text}
use Rattle.model_rows.specs.declared.rows.Status.{Status}
use Rattle.model_rows.specs.declared.rows.Status.TheVariants.{Pending, Paid, Expired, Cancelled}
use Rattle.model_rows.specs.declared.rows.Order.{Order}
use Rattle.model_rows.specs.declared.rows.OrderPos.{OrderPos}
use Rattle.model_rows.specs.declared.rows.CheckinList.{CheckinList}
use Rattle.model_rows.specs.declared.rows.Checkin.{Checkin}
use Rattle.model_rows.specs.Conditions.{is_paid, is_pending, is_in_force}
use Rattle.model_rows.specs.Lists.{Lists, State, checkin_list_at}
use Rattle.model_rows.proofs.EachRow.{with_row_cases, key-row_at}
use Rattle.model_invariant.specs.Checkins.{same_nonce, AreOnce}
use Rattle.model_invariant.specs.Sound.{IsSound}
use Rattle.model_commands.specs.FitRequests.{IsFitScan}
use Rattle.model_commands.specs.declared.doors.Ticket.{Ticket}
use Rattle.model_commands.specs.declared.doors.Scan.{Scan}
use Rattle.model_commands.specs.declared.doors.DoorRefusal.{DoorRefusal}
use Rattle.decide_door.specs.declared.verdict.Admission.{Admission}
use Rattle.decide_door.specs.Verdict.{shown_by, is_in_force_if, is_unpaid, is_unpaid_if, is_stored}
use Rattle.decide_door.specs.Valid.{IsValid, IsStillGood}
use Rattle.decide_door.specs.Scanned.{checkin_row, let_through, ticket_scanned}
use Rattle.decide_door.proofs.Judged.{again_is}
use Rattle.decide_door.proofs.Admitted.{IsEitherOf, admitted_is, admitted_sound}

module _ (test : Checkin → Bool) (row : Checkin) where
  -- what passes among them passes still where a row is put behind them
  any_still : (rows : List Checkin) → AllByRecursion (λ c. c.id < row.id) rows → list_any test rows ≡ true → list_any test (with_row (λ r. r.id) row rows) ≡ true
  any_still [] below h = absurd (cc)
  any_still (c ∷ cs) below h = by_first (test c) refl h (any_still cs below.1)
    where
      here : (b : Bool) → test c ≡ b → (b ≡ true) ⊎ (list_any test (with_row (λ r. r.id) row cs) ≡ true) → list_any test (with_row (λ r. r.id) row (c ∷ cs)) ≡ true
      here b e h =
          with_row_cases (λ r. r.id) (λ l. list_any test l ≡ true) row c cs
          (λ lt. by_either b e h)
          (λ same. absurd (omega (arith, below.0, same)))
          (λ lt. absurd (omega (arith, below.0, lt)))
        where
          by_either : (b : Bool) → test c ≡ b → (b ≡ true) ⊎ (list_any test (with_row (λ r. r.id) row cs) ≡ true) → (test c || list_any test (with_row (λ r. r.id) row cs)) ≡ true
          by_either true e h = rw e refl
          by_either false e (inl f) = absurd (cc (f))
          by_either false e (inr more) = rw e more

      by_first : (b : Bool) → test c ≡ b → (b || list_any test cs) ≡ true → (list_any test cs ≡ true → list_any test (with_row (λ r. r.id) row cs) ≡ true) → list_any test (with_row (λ r. r.id) row (c ∷ cs)) ≡ true
      by_first true e h more = here true e (inl refl)
      by_first false e h more = here false e (inr (more h))

  -- and a row that passes does so where it is put
  any_put : (rows : List Checkin) → test row ≡ true → list_any test (with_row (λ r. r.id) row rows) ≡ true
  any_put [] h = rw h refl
  any_put (c ∷ cs) h =
      let more = any_put cs h in
      with_row_cases (λ r. r.id) (λ l. list_any test l ≡ true) row c cs
      (λ lt. by_first (test c) (list_any test (with_row (λ r. r.id) row cs)) more)
      (λ same. rw h refl)
      (λ lt. rw h refl)
    where
      by_first : (a b : Bool) → b ≡ true → (a || b) ≡ true
      by_first true b e = refl
      by_first false b e = e

same_bytes : (text : List ℕ) → same_text text text ≡ true
same_bytes [] = refl
same_bytes (b ∷ bs) = grind (arith, nat_tests, same_bytes bs)

same_as_itself : (nonce : Option (List ℕ)) → is_some nonce ≡ true → same_nonce nonce nonce ≡ true
same_as_itself None h = absurd (cc)
same_as_itself (Some nonce) h = same_bytes nonce

module _ (list : ℕ) (ticket : Ticket) (scan : Scan) (before after : State) (position : OrderPos) where
  -- a scan with a nonce that is let through leaves a check-in with it
  pub scan_stores : is_some scan.nonce ≡ true → ticket_scanned list ticket scan before ≡ Ok (after, position) → is_stored list position.id scan.nonce after.lists.checkins ≡ true
  scan_stores given h = by_case (admitted_is list ticket scan before after position h).1
    where
      by_case : IsEitherOf list scan before after position → is_stored list position.id scan.nonce after.lists.checkins ≡ true
      by_case (inl same) = subst (λ (s : State). is_stored list position.id scan.nonce s.lists.checkins ≡ true) same.1 same.0
      by_case (inr new) =
          let passes : (list == list && (position.id == position.id && same_nonce scan.nonce scan.nonce)) ≡ true = grind (arith, nat_tests, same_as_itself scan.nonce given) in
          subst (λ (s : State). is_stored list position.id scan.nonce s.lists.checkins ≡ true) new.is_after
          (any_put (λ c. c.list == list && (c.position == position.id && same_nonce c.nonce scan.nonce)) (checkin_row list position scan before) before.lists.checkins passes)

  -- what is stored stays so
  pub stays_stored : (at p : ℕ) (nonce : Option (List ℕ)) → is_stored at p nonce before.lists.checkins ≡ true → ticket_scanned list ticket scan before ≡ Ok (after, position) → IsSound before → is_stored at p nonce after.lists.checkins ≡ true
  stays_stored at p nonce stored h sound = by_case (admitted_is list ticket scan before after position h).1
    where
      by_case : IsEitherOf list scan before after position → is_stored at p nonce after.lists.checkins ≡ true
      by_case (inl same) = subst (λ (s : State). is_stored at p nonce s.lists.checkins ≡ true) same.1 stored
      by_case (inr new) =
          subst (λ (s : State). is_stored at p nonce s.lists.checkins ≡ true) new.is_after
          (any_still (λ c. c.list == at && (c.position == p && same_nonce c.nonce nonce)) (checkin_row list position scan before) before.lists.checkins sound.ids.checkins.below stored)

  pub once_after : IsFitScan scan → IsSound before → ticket_scanned list ticket scan before ≡ Ok (after, position) → AreOnce after.lists.checkins
  once_after fit sound h = (admitted_sound list ticket scan before after position fit sound h).door.nonces

-- while it is stored, it is let through again, and nothing changes
pub scan_again : (list : CheckinList) (ticket : Ticket) (scan : Scan) (state : State) (position : OrderPos) → checkin_list_at list.id state.lists ≡ Some list → shown_by ticket state.lists ≡ Some position → IsValid list position scan state.lists → is_stored list.id position.id scan.nonce state.lists.checkins ≡ true → ticket_scanned list.id ticket scan state ≡ Ok (state, position)
unfolding ticket_scanned
scan_again list ticket scan state position found shown valid stored = rw (found, shown) (ap (λ (v : Result Admission DoorRefusal). v >>= (λ a. let_through list.id scan state a)) (again_is scan state.lists list position valid stored))

paid_in_force : (status : Status) → is_paid status ≡ true → is_in_force status ≡ true
paid_in_force Pending e = absurd (cc (e))
paid_in_force Paid e = refl
paid_in_force Expired e = absurd (cc (e))
paid_in_force Cancelled e = absurd (cc (e))

paid_not_pending : (status : Status) → is_paid status ≡ true → is_pending status ≡ false
paid_not_pending Pending e = absurd (cc (e))
paid_not_pending Paid e = refl
paid_not_pending Expired e = refl
paid_not_pending Cancelled e = refl

-- what a position's order allowed it allows still
pub valid_still : (list : CheckinList) (position : OrderPos) (scan : Scan) (before after : Lists) → IsStillGood position.order before after → IsValid list position scan before → IsValid list position scan after
valid_still list position scan before after good valid = record {
  in_force = ap (λ (o : Option Order). is_in_force_if o) good.stands ∙ in_force good.status;
  listed = valid.listed;
  paid = ap (λ (o : Option Order). is_unpaid_if list scan o) good.stands ∙ paid good.status;
}
  where
    in_force : (is_paid good.new.status ≡ true) ⊎ (good.new.status ≡ good.old.status) → is_in_force good.new.status ≡ true
    in_force (inl e) = paid_in_force good.new.status e
    in_force (inr e) = ap (λ (s : Status). is_in_force s) e ∙ ap (λ (o : Option Order). is_in_force_if o) (sym good.stood) ∙ valid.in_force

    paid : (is_paid good.new.status ≡ true) ⊎ (good.new.status ≡ good.old.status) → is_unpaid list scan good.new.status ≡ false
    paid (inl e) = ap (λ (b : Bool). b && not (scan.force || (scan.ignore_unpaid && list.include_pending))) (paid_not_pending good.new.status e)
    paid (inr e) = ap (λ (s : Status). is_unpaid list scan s) e ∙ ap (λ (o : Option Order). is_unpaid_if list scan o) (sym good.stood) ∙ valid.paid

-- a scan with a nonce that was let through is let through again and changes nothing, whatever came between: the list and the
-- position stand, the check-in is stored, and the order stands as it did, or is paid
pub scan_repeated : (list : ℕ) (ticket : Ticket) (scan : Scan) (before after later : State) (position : OrderPos) → ticket_scanned list ticket scan before ≡ Ok (after, position)
    → checkin_list_at list later.lists ≡ checkin_list_at list before.lists → shown_by ticket later.lists ≡ Some position → IsStillGood position.order before.lists later.lists
    → is_stored list position.id scan.nonce later.lists.checkins ≡ true → ticket_scanned list ticket scan later ≡ Ok (later, position)
scan_repeated list ticket scan before after later position h same shown good stored =
    let a = (admitted_is list ticket scan before after position h).0 in
    let id : a.by.id ≡ list = key-row_at (λ (r : CheckinList). r.id) list before.lists.checkin_lists a.by a.found in
    subst (λ (n : ℕ). ticket_scanned n ticket scan later ≡ Ok (later, position)) id
    (scan_again a.by ticket scan later position (ap (λ (n : ℕ). checkin_list_at n later.lists) id ∙ same ∙ a.found) shown (valid_still a.by position scan before.lists later.lists good a.valid) (subst (λ (n : ℕ). is_stored n position.id scan.nonce later.lists.checkins ≡ true) (sym id) stored))
