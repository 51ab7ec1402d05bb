-- What is known where a ticket was let through.
use Rattle.std.proofs.Common.{◌≡◌, ℕ, ◌⊎◌, inl, inr, true, false, [], Option, Some, None, Result, Ok, refl, sym, ap, ◌∙◌, subst}
use Rattle.std.specs.Prelude.{is_some, unwrap_or, IfSome}
use Rattle.base_values.proofs.Decided.{gave, gave_it, passed}
use Rattle.base_values.specs.Moments.{IsMoment}
use Rattle.base_tables.specs.Tables.{AreInOrder}
use Rattle.base_values.specs.Texts.{same_text}
use Rattle.model_rows.specs.declared.rows.OrderPos.{OrderPos}
use Rattle.model_rows.specs.declared.rows.CheckinList.{CheckinList}
use Rattle.model_rows.specs.declared.changes.Change.TheVariants.{PutCheckin}
use Rattle.model_rows.specs.Lists.{Lists, State, position_at, checkin_list_at}
use Rattle.model_rows.specs.Full.{takes_checkin}
use Rattle.model_rows.specs.Numbered.{with_checkin}
use Rattle.model_rows.proofs.EachRow.{key-row_at}
use Rattle.model_rows.proofs.Found.{row_at_found}
use Rattle.model_invariant.specs.Checkins.{IsCheckedIn}
use Rattle.model_invariant.specs.Changes.{LeadTo}
use Rattle.model_invariant.specs.Limits.{IsLimitedCheckin}
use Rattle.model_invariant.specs.Sound.{IsSound}
use Rattle.model_invariant.proofs.Changes.{leads_one, leads_nowhere}
use Rattle.model_invariant.proofs.Numbered.{takes_it}
use Rattle.model_commands.specs.FitRequests.{IsFitScan}
use Rattle.model_commands.specs.declared.doors.Ticket.{Ticket}
use Rattle.model_commands.specs.declared.doors.Ticket.TheVariants.{Position, Secret, Unreadable}
use Rattle.model_commands.specs.declared.doors.Scan.{Scan}
use Rattle.model_commands.specs.declared.doors.DoorRefusal.{DoorRefusal}
use Rattle.decide_door.specs.declared.verdict.Admission.{Admission}
use Rattle.decide_door.specs.declared.verdict.Admission.TheVariants.{Again, New}
use Rattle.decide_door.specs.Verdict.{shown_by, is_stored}
use Rattle.decide_door.specs.Valid.{IsValid}
use Rattle.decide_door.specs.Scanned.{checkin_row, checkin_stored, let_through, verdict_of, ticket_scanned, puts_by, scan_puts}
use Rattle.decide_door.proofs.Judged.{IsEither, IsJudged, judged_is}
use Rattle.model_invariant.proofs.SoundDoors.{sound_checkin}

-- the position that a ticket shows is the one of its id
pub shown_stands : (ticket : Ticket) (lists : Lists) (position : OrderPos) → AreInOrder (λ r. r.id) lists.positions → shown_by ticket lists ≡ Some position → position_at position.id lists ≡ Some position
shown_stands (Position id) lists position order h = ap (λ (n : ℕ). position_at n lists) (key-row_at (λ (r : OrderPos). r.id) id lists.positions position h) ∙ h
shown_stands (Secret secret) lists position order h = row_at_found (λ (r : OrderPos). r.id) (λ p. same_text p.secret secret) 0 lists.positions position order h
shown_stands Unreadable lists position order h = absurd (cc)

-- the list and the position that were found, and what the verdict rests on
pub record IsAdmitted (list : ℕ) (ticket : Ticket) (scan : Scan) (before : State) (position : OrderPos) : Type 0 where
  pub by : CheckinList
  pub found : checkin_list_at list before.lists ≡ Some by
  pub shown : shown_by ticket before.lists ≡ Some position
  pub valid : IsValid by position scan before.lists

-- a check-in that wasn't stored before, and that the table took
pub record IsNew (list : ℕ) (scan : Scan) (before after : State) (position : OrderPos) : Type 0 where
  pub unstored : is_stored list position.id scan.nonce before.lists.checkins ≡ false
  pub takes : takes_checkin before ≡ true
  pub is_after : with_checkin (checkin_row list position scan before) before ≡ after

-- its nonce was stored before, and nothing changed; or it is a new check-in
abbrev pub IsEitherOf : ℕ → Scan → State → State → OrderPos → Type 0
IsEitherOf list scan before after position = ((is_stored list position.id scan.nonce before.lists.checkins ≡ true) × (before ≡ after)) ⊎ IsNew list scan before after position

module _ (list : ℕ) (ticket : Ticket) (scan : Scan) (before after : State) (position : OrderPos) where
  abbrev Gives : Result (State × OrderPos) DoorRefusal → Type 0
  Gives result = result ≡ Ok (after, position)

  abbrev Is : Type 0
  Is = IsAdmitted list ticket scan before position × IsEitherOf list scan before after position

  abbrev IsVerdict : Admission → Type 0
  IsVerdict a = IsJudged scan before.lists (checkin_list_at list before.lists) (shown_by ticket before.lists) a

  -- what was judged is of this position
  admitted_by : (a : Admission) (j : IsVerdict a) → j.position ≡ position → IsAdmitted list ticket scan before position
  admitted_by a j same = subst (IsAdmitted list ticket scan before) same (record { by = j.list; found = j.found_it; shown = j.shown_it; valid = j.valid })

  -- the list that was found has the id
  id_of : (a : Admission) (j : IsVerdict a) → j.list.id ≡ list
  id_of a j = key-row_at (λ (r : CheckinList). r.id) list before.lists.checkin_lists j.list j.found_it

  put_new : (p : OrderPos) → is_stored list p.id scan.nonce before.lists.checkins ≡ false → Gives (checkin_stored (checkin_row list p scan before) p before) → (p ≡ position) × IsNew list scan before after position
  put_new p unstored h =
      let (takes, h1) = passed (takes_checkin before) _ _ h in
      let same = gave_it (with_checkin (checkin_row list p scan before) before, p) (after, position) h1 in
      let is : p ≡ position = ap (λ (x : State × OrderPos). x.1) same in (
        is,
        record {
          unstored = subst (λ (q : OrderPos). is_stored list q.id scan.nonce before.lists.checkins ≡ false) is unstored;
          takes = takes;
          is_after = ap (λ (q : OrderPos). with_checkin (checkin_row list q scan before) before) (sym is) ∙ ap (λ (x : State × OrderPos). x.0) same;
        },
      )

  by_admission : (admission : Admission) → verdict_of list ticket scan before ≡ Ok admission → Gives (let_through list scan before admission) → Is
  by_admission (Again p) e h =
      let same : (let made : State × OrderPos = (before, p) in made ≡ (after, position)) = cc in
      let is : p ≡ position = ap (λ (x : State × OrderPos). x.1) same in
      by_either (judged_is scan before.lists (checkin_list_at list before.lists) (shown_by ticket before.lists) (Again p) e) is (ap (λ (x : State × OrderPos). x.0) same)
    where
      by_either : (j : IsVerdict (Again p)) → p ≡ position → before ≡ after → Is
      by_either j is e = by_case j.either
        where
          by_case : IsEither scan before.lists j.list j.position (Again p) → Is
          by_case (inl c) =
              let q : j.position ≡ p = cc in
              (admitted_by (Again p) j (q ∙ is), inl (subst (λ (n : ℕ). is_stored n position.id scan.nonce before.lists.checkins ≡ true) (id_of (Again p) j) (subst (λ (o : OrderPos). is_stored j.list.id o.id scan.nonce before.lists.checkins ≡ true) (q ∙ is) c.0), e))
          by_case (inr c) = absurd (cc)
  by_admission (New p) e h = by_either (judged_is scan before.lists (checkin_list_at list before.lists) (shown_by ticket before.lists) (New p) e)
    where
      by_either : (j : IsVerdict (New p)) → Is
      by_either j = by_case j.either
        where
          by_case : IsEither scan before.lists j.list j.position (New p) → Is
          by_case (inl c) = absurd (cc)
          by_case (inr c) =
              let q : j.position ≡ p = cc in
              let unstored : is_stored list p.id scan.nonce before.lists.checkins ≡ false = subst (λ (n : ℕ). is_stored n p.id scan.nonce before.lists.checkins ≡ false) (id_of (New p) j) (subst (λ (o : OrderPos). is_stored j.list.id o.id scan.nonce before.lists.checkins ≡ false) q c.0.0) in
              let r = put_new p unstored h in
              (admitted_by (New p) j (q ∙ r.0), inr r.1)

  pub admitted_is : Gives (ticket_scanned list ticket scan before) → Is
  unfolding ticket_scanned
  admitted_is h =
      let (admission, e, h1) = gave (verdict_of list ticket scan before) _ h in
      by_admission admission e h1

  pub admitted_moment : Gives (ticket_scanned list ticket scan before) → after.moment ≡ before.moment
  admitted_moment h = by_case (admitted_is h).1
    where
      by_case : IsEitherOf list scan before after position → after.moment ≡ before.moment
      by_case (inl same) = sym (ap (λ (s : State). s.moment) same.1)
      by_case (inr new) = sym (ap (λ (s : State). s.moment) new.is_after)

  -- the list and the position of the check-in stand
  admitted_rows : IsSound before → IsAdmitted list ticket scan before position → IsCheckedIn before.lists.checkin_lists before.lists.positions (checkin_row list position scan before)
  admitted_rows sound a = record {
    list = ap (λ (o : Option CheckinList). is_some o) a.found;
    position = ap (λ (o : Option OrderPos). is_some o) (shown_stands ticket before.lists position sound.ids.positions.in_order a.shown);
  }

  -- its moment and its nonce are within their limits
  admitted_limits : IsFitScan scan → IsSound before → IsLimitedCheckin (checkin_row list position scan before)
  admitted_limits fit sound = record { datetime = by_moment scan.datetime fit.datetime; nonce = fit.nonce }
    where
      by_moment : (at : Option ℕ) → IfSome at IsMoment → IsMoment (unwrap_or at before.moment)
      by_moment None is = sound.range.moment
      by_moment (Some at) is = is

  -- the box office stays sound
  pub admitted_sound : IsFitScan scan → IsSound before → Gives (ticket_scanned list ticket scan before) → IsSound after
  admitted_sound fit sound h = by_case (admitted_is h)
    where
      by_case : Is → IsSound after
      by_case (a, inl same) = subst IsSound same.1 sound
      by_case (a, inr new) = subst IsSound new.is_after (sound_checkin before (checkin_row list position scan before) refl (takes_it before.next.checkin before.lists.checkins new.takes) (admitted_rows sound a) new.unstored (admitted_limits fit sound) sound)

  -- its changes can be made at once, and lead there
  pub admitted_leads : IsFitScan scan → IsSound before → Gives (ticket_scanned list ticket scan before) → LeadTo (scan_puts list ticket scan before) before.lists after.lists
  unfolding ticket_scanned scan_puts
  admitted_leads fit sound h =
      let (admission, e, h1) = gave (verdict_of list ticket scan before) _ h in
      subst (λ (v : Result Admission DoorRefusal). LeadTo (puts_by list scan before v) before.lists after.lists) (sym e) (by_admission_leads admission h1 (admitted_sound fit sound h))
    where
      by_admission_leads : (admission : Admission) → Gives (let_through list scan before admission) → IsSound after → LeadTo (puts_by list scan before (Ok admission)) before.lists after.lists
      by_admission_leads (Again p) h sound = subst (λ (s : State). LeadTo [] before.lists s.lists) (ap (λ (x : State × OrderPos). x.0) (gave_it (before, p) (after, position) h)) (leads_nowhere before.lists)
      by_admission_leads (New p) h sound =
          let (takes, h1) = passed (takes_checkin before) _ _ h in
          leads_one (PutCheckin (checkin_row list p scan before)) before after (ap (λ (x : State × OrderPos). x.0.lists) (gave_it (with_checkin (checkin_row list p scan before) before, p) (after, position) h1)) sound
