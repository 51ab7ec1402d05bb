-- The words of each reply.
use Rattle.std.specs.Prelude.{ℕ, List, None, [], Bool, true, false, if◌then◌else◌}
use Rattle.std.specs.List.{list_all}
use Rattle.base_values.specs.declared.answer.Response.{Response}
use Rattle.model_commands.specs.declared.requests.Resource.{Resource}
use Rattle.model_commands.specs.declared.requests.Resource.TheVariants as resources
use Rattle.model_commands.specs.declared.replies.Page.{Page}
use Rattle.model_commands.specs.declared.replies.Reply.{Reply}
use Rattle.model_commands.specs.declared.replies.Reply.TheVariants as replies
use Rattle.model_commands.specs.declared.replies.Shown.{Shown}
use Rattle.model_commands.specs.declared.replies.Shown.TheVariants as shown
use Rattle.web_responses.specs.Responses.{response, empty_body}
use Rattle.web_json.specs.Rows.{shown_body, availability_body}
use Rattle.web_json.specs.WaitingRows.{periodic_body}
use Rattle.web_json.specs.DoorRows.{admitted_body, door_status_body}
use Rattle.web_responses.specs.Results.{results_body}
use Rattle.web_responses.specs.Pages.{page_body}
use Rattle.web_responses.specs.Refusals.{refused_response}

-- 204 has no body
abbrev pub gone_response : Response
gone_response = record { status = 204; allow = None; body = [] }

-- what a reply is told that no request leads to: 200 `{}`
abbrev pub untold : Response
untold = response 200 None empty_body

-- a position of a check-in list is made with its order
abbrev pub is_made : Shown → Bool
is_made (shown.Ticket ticket) = false
is_made row = true

-- a variation is shown where it is made, and else with its item; a position of a check-in list is shown in pages alone
abbrev pub stands_alone : Shown → Bool
stands_alone (shown.Variation priced) = false
stands_alone (shown.Ticket ticket) = false
stands_alone row = true

-- a row of the kind that the list has
abbrev pub is_row_of : Resource → Shown → Bool
is_row_of resources.Items (shown.Item rows) = true
is_row_of resources.Quotas (shown.Quota quota) = true
is_row_of resources.Vouchers (shown.Voucher voucher redeemed) = true
is_row_of resources.Carts (shown.Cart cart) = true
is_row_of resources.Orders (shown.Order rows) = true
is_row_of resources.WaitingEntries (shown.Waiting entry) = true
is_row_of resources.CheckinLists (shown.CheckinList door) = true
is_row_of (resources.Tickets door) (shown.Ticket ticket) = true
is_row_of resource row = false

-- 201 and the row that was made; a position of a check-in list never is
abbrev pub made_response : Shown → Response
made_response row = if is_made row then response 201 None (shown_body row) else untold

-- 200 and the row that was asked for or changed, of a kind that is shown by itself
abbrev pub found_response : Shown → Response
found_response row = if stands_alone row then response 200 None (shown_body row) else untold

-- 200 and a page, whose rows are all of the list's kind
abbrev pub page_response : List ℕ → List ℕ → Page → Response
page_response organizer event page =
    if list_all (is_row_of page.resource) page.rows then response 200 None (page_body organizer event page) else untold

-- 201 for what was made and for a ticket that was let in or out, 200 for what was asked for, for a bulk call and for
-- periodic work, 204 for what was deleted, in the shop of these slugs
unfoldable pub words : List ℕ → List ℕ → Reply → Response
words organizer event (replies.Made row) = made_response row
words organizer event (replies.Found row) = found_response row
words organizer event (replies.Results outcomes) = response 200 None (results_body outcomes)
words organizer event (replies.Imported verdicts) = untold
words organizer event (replies.Listed page) = page_response organizer event page
words organizer event replies.Gone = gone_response
words organizer event (replies.Availability left) = response 200 None (availability_body left)
words organizer event (replies.Periodic counts) = response 200 None (periodic_body counts)
words organizer event (replies.Admitted position) = response 201 None (admitted_body position)
words organizer event (replies.Status door) = response 200 None (door_status_body door)
words organizer event (replies.Refused kind refusal) = refused_response kind refusal
