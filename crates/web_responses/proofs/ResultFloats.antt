-- The bodies of refusals, and of the entries of bulk calls, have no float.
use Rattle.std.proofs.Common.{◌≡◌, ℕ, false, List, Option, Some, None, refl}
use Rattle.serde_json.specs.Written.{has_float}
use Rattle.model_commands.specs.declared.vouchers.VoucherRefusal.TheVariants as voucher
use Rattle.model_commands.specs.declared.orders.OrderRefusal.TheVariants as order
use Rattle.model_commands.specs.declared.doors.DoorRefusal.{DoorRefusal}
use Rattle.model_commands.specs.declared.carts.Outcome.{Outcome}
use Rattle.model_commands.specs.declared.carts.Outcome.TheVariants as outcomes
use Rattle.model_faults.specs.declared.fields.EntryFault.{EntryFault}
use Rattle.model_faults.specs.declared.fields.EntryFault.TheVariants as entry_faults
use Rattle.model_commands.specs.declared.requests.Kind.{Kind}
use Rattle.model_commands.specs.declared.requests.Kind.TheVariants as kinds
use Rattle.model_commands.specs.declared.replies.Refusal.{Refusal}
use Rattle.model_commands.specs.declared.replies.Refusal.TheVariants as refusals
use Rattle.web_responses.specs.Refusals.{detail, door_detail, quota_named, refusal_body, numbered_body, reason_of, door_body, told_body, manner_of, body_in, refusal_data}
use Rattle.web_responses.specs.declared.refusals.Manner.{Manner}
use Rattle.web_responses.specs.declared.refusals.Manner.TheVariants.{Missing, Told, Untold}
use Rattle.web_responses.specs.Results.{entry_fault_body, outcome_body}
use Rattle.web_json.proofs.Floats.{cart_no_float}

worded_no_float : (number : ℕ) (text : List ℕ) (quota : Option ℕ) → has_float (refusal_body number text quota) ≡ false
worded_no_float number text None = refl
worded_no_float number text (Some quota) = refl

numbered_no_float : (refusal : Refusal) (text : Option (List ℕ)) → has_float (numbered_body refusal text) ≡ false
numbered_no_float refusal None = refl
numbered_no_float refusal (Some text) = worded_no_float _ text (quota_named refusal)

door_no_float : (refusal : DoorRefusal) (word : Option (List ℕ)) → has_float (door_body refusal word) ≡ false
door_no_float refusal None = numbered_no_float (refusals.Door refusal) (door_detail refusal)
door_no_float refusal (Some word) = refl

told_no_float : (refusal : Refusal) → has_float (told_body refusal) ≡ false
told_no_float refusals.NoPage = refl
told_no_float (refusals.Voucher voucher.TooLarge) = refl
told_no_float (refusals.Order (order.WrongStatus status)) = refl
told_no_float (refusals.Door refusal) = door_no_float refusal (reason_of refusal)
told_no_float refusal = numbered_no_float refusal (detail refusal)

body_no_float : (manner : Manner) (refusal : Refusal) → has_float (body_in manner refusal) ≡ false
body_no_float Missing refusal = refl
body_no_float Told refusal = told_no_float refusal
body_no_float Untold refusal = refl

pub refusal_no_float : (kind : Kind) (refusal : Refusal) → has_float (refusal_data kind refusal) ≡ false
unfolding refusal_data
refusal_no_float kind refusal = body_no_float (manner_of kind refusal) refusal

fault_no_float : (fault : EntryFault) → has_float (entry_fault_body fault) ≡ false
fault_no_float entry_faults.InvalidData = refl
fault_no_float (entry_faults.Field fault) = refl

pub outcome_no_float : (outcome : Outcome) → has_float (outcome_body outcome) ≡ false
outcome_no_float (outcomes.Added cart) = rw (cart_no_float cart) refl
outcome_no_float (outcomes.Refused refusal) = rw (refusal_no_float kinds.AddCart (refusals.Order refusal)) refl
outcome_no_float (outcomes.Faulty fault) = rw (fault_no_float fault) refl
