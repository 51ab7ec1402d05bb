-- The status of each reply.
use Rattle.std.proofs.Common.{◌≡◌, Bool, true, false, List, ℕ, refl}
use Rattle.std.specs.Prelude.{if◌then◌else◌}
use Rattle.std.specs.List.{list_all}
use Rattle.base_values.specs.declared.answer.Response.{Response}
use Rattle.model_commands.specs.declared.doors.DoorRefusal.TheVariants as door
use Rattle.model_commands.specs.declared.replies.Refusal.{Refusal}
use Rattle.model_commands.specs.declared.replies.Refusal.TheVariants as refusals
use Rattle.model_commands.specs.declared.replies.Reply.{Reply}
use Rattle.model_commands.specs.declared.replies.Reply.TheVariants as replies
use Rattle.model_commands.specs.declared.requests.Kind.{Kind}
use Rattle.model_commands.specs.declared.requests.Kind.TheVariants as kinds
use Rattle.model_commands.specs.declared.vouchers.VoucherRefusal.TheVariants as voucher
use Rattle.model_commands.specs.declared.waiting.WaitingRefusal.TheVariants as waiting
use Rattle.web_responses.specs.declared.refusals.Manner.{Manner}
use Rattle.web_responses.specs.declared.refusals.Manner.TheVariants.{Missing, Told, Untold}
use Rattle.web_responses.specs.Refusals.{manner_of, refused_response, sent_status, status_in, told_status}
use Rattle.web_responses.specs.Replies.{is_made, is_row_of, stands_alone, untold, words}
use Rattle.web_responses.specs.Statuses.{is_given}

sent_given : (kind : Kind) → is_given (sent_status kind) ≡ true
sent_given kinds.SendVoucher = refl
sent_given kind = refl

refusal_given : (kind : Kind) (refusal : Refusal) → is_given (told_status kind refusal) ≡ true
refusal_given kind refusals.NoPage = refl
refusal_given kind (refusals.Door door.Invalid) = refl
refusal_given kind (refusals.Voucher voucher.InUse) = refl
refusal_given kind (refusals.Waiting waiting.AlreadySent) = sent_given kind
refusal_given kind refusal = refl

manner_given : (manner : Manner) (kind : Kind) (refusal : Refusal) → is_given (status_in manner kind refusal) ≡ true
manner_given Missing kind refusal = refl
manner_given Told kind refusal = refusal_given kind refusal
manner_given Untold kind refusal = refl

either_given : (test : Bool) (response : Response) → is_given response.status ≡ true → is_given (if test then response else untold).status ≡ true
either_given true response given = given
either_given false response given = refl

pub words_given : (organizer event : List ℕ) (reply : Reply) → is_given (words organizer event reply).status ≡ true
unfolding words refused_response
words_given organizer event (replies.Made row) = either_given (is_made row) _ refl
words_given organizer event (replies.Found row) = either_given (stands_alone row) _ refl
words_given organizer event (replies.Results outcomes) = refl
words_given organizer event (replies.Imported verdicts) = refl
words_given organizer event (replies.Listed page) = either_given (list_all (is_row_of page.resource) page.rows) _ refl
words_given organizer event replies.Gone = refl
words_given organizer event (replies.Availability left) = refl
words_given organizer event (replies.Periodic counts) = refl
words_given organizer event (replies.Admitted position) = refl
words_given organizer event (replies.Status door) = refl
words_given organizer event (replies.Refused kind refusal) = manner_given (manner_of kind refusal) kind refusal
