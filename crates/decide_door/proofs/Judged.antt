-- What is known of the verdict where a scan is let through.
use Rattle.std.proofs.Common.{◌≡◌, ◌⊎◌, inl, inr, Bool, true, false, Option, Some, None, Result, Ok, Err, refl}
use Rattle.std.specs.Prelude.{not, if◌then◌else◌}
use Rattle.model_rows.specs.declared.rows.OrderPos.{OrderPos}
use Rattle.model_rows.specs.declared.rows.CheckinList.{CheckinList}
use Rattle.model_rows.specs.Lists.{Lists, order_at}
use Rattle.model_commands.specs.declared.doors.Scan.{Scan}
use Rattle.model_commands.specs.declared.doors.DoorRefusal.{DoorRefusal}
use Rattle.model_commands.specs.declared.doors.DoorRefusal.TheVariants.{Canceled, Product, Unpaid, AlreadyRedeemed}
use Rattle.decide_door.specs.declared.verdict.Admission.{Admission}
use Rattle.decide_door.specs.declared.verdict.Admission.TheVariants.{Again, New}
use Rattle.decide_door.specs.Belongs.{is_for}
use Rattle.decide_door.specs.Verdict.{is_in_force_if, is_unpaid_if, is_stored, may_pass, verdict}
use Rattle.decide_door.specs.Valid.{IsValid}

module _ (scan : Scan) (lists : Lists) where
  -- it was stored before, and so it is let through again; or it wasn't, and may pass
  abbrev pub IsEither : CheckinList → OrderPos → Admission → Type 0
  IsEither list position a =
      ((is_stored list.id position.id scan.nonce lists.checkins ≡ true) × (Again position ≡ a))
      ⊎ (((is_stored list.id position.id scan.nonce lists.checkins ≡ false) × (may_pass list position.id scan lists.checkins ≡ true)) × (New position ≡ a))

  -- the list and the position that were found, and what the verdict rests on
  pub record IsJudged (found : Option CheckinList) (shown : Option OrderPos) (a : Admission) : Type 0 where
    pub list : CheckinList
    pub position : OrderPos
    pub found_it : found ≡ Some list
    pub shown_it : shown ≡ Some position
    pub valid : IsValid list position scan lists
    pub either : IsEither list position a

  module _ (a : Admission) (list : CheckinList) (position : OrderPos) where
    abbrev Gives : Result Admission DoorRefusal → Type 0
    Gives result = result ≡ Ok a

    abbrev by_check_ins : Bool → Bool → Result Admission DoorRefusal
    by_check_ins stored passes = if stored then Ok (Again position) else if passes then Ok (New position) else Err AlreadyRedeemed

    abbrev at_check_ins : Result Admission DoorRefusal
    at_check_ins = by_check_ins (is_stored list.id position.id scan.nonce lists.checkins) (may_pass list position.id scan lists.checkins)

    either_by : (stored passes : Bool) → is_stored list.id position.id scan.nonce lists.checkins ≡ stored → may_pass list position.id scan lists.checkins ≡ passes → Gives (by_check_ins stored passes) → IsEither list position a
    either_by true passes e f h = inl (e, cc)
    either_by false true e f h = inr ((e, f), cc)
    either_by false false e f h = absurd (cc)

    judged_by : (in_force listed unpaid : Bool) → is_in_force_if (order_at position.order lists) ≡ in_force → is_for list position.product.item ≡ listed
        → is_unpaid_if list scan (order_at position.order lists) ≡ unpaid
        → Gives (if not in_force then Err Canceled else if not listed then Err Product else if unpaid then Err Unpaid else at_check_ins) → IsJudged (Some list) (Some position) a
    judged_by false listed unpaid e f g h = absurd (cc)
    judged_by true false unpaid e f g h = absurd (cc)
    judged_by true true true e f g h = absurd (cc)
    judged_by true true false e f g h = record {
      list = list;
      position = position;
      found_it = refl;
      shown_it = refl;
      valid = record { in_force = e; listed = f; paid = g };
      either = either_by (is_stored list.id position.id scan.nonce lists.checkins) (may_pass list position.id scan lists.checkins) refl refl h;
    }

  pub judged_is : (found : Option CheckinList) (shown : Option OrderPos) (a : Admission) → verdict found shown scan lists ≡ Ok a → IsJudged found shown a
  unfolding verdict
  judged_is None shown a h = absurd (cc)
  judged_is (Some list) None a h = absurd (cc)
  judged_is (Some list) (Some position) a h = judged_by a list position (is_in_force_if (order_at position.order lists)) (is_for list position.product.item) (is_unpaid_if list scan (order_at position.order lists)) refl refl refl h

  -- where its check-in is stored, and it is valid, it is let through again
  pub again_is : (list : CheckinList) (position : OrderPos) → IsValid list position scan lists → is_stored list.id position.id scan.nonce lists.checkins ≡ true → verdict (Some list) (Some position) scan lists ≡ Ok (Again position)
  unfolding verdict
  again_is list position valid stored = rw (valid.in_force, valid.listed, valid.paid, stored) refl
