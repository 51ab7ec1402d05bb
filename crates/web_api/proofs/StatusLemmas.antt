-- The statuses of requests that are refused before they are read as one, and of answers.
use Rattle.std.proofs.Common.{◌≡◌, ℕ, Bool, true, false, List, Option, Some, None, Result, Ok, Err, refl}
use Rattle.base_values.specs.declared.answer.Answer.{Answer}
use Rattle.base_values.specs.declared.answer.Answer.TheVariants.{Decided, Unavailable}
use Rattle.base_values.specs.declared.answer.Methods.{Methods}
use Rattle.base_values.specs.declared.answer.Response.{Response}
use Rattle.web_http.specs.Messages.{Message}
use Rattle.web_http.specs.Text.{answer_text, text, unavailable_body}
use Rattle.model_commands.specs.declared.doors.Scan.{Scan}
use Rattle.model_commands.specs.declared.orders.Move.{Move}
use Rattle.model_commands.specs.declared.requests.Command.{Command}
use Rattle.model_commands.specs.declared.requests.Resource.{Resource}
use Rattle.web_fields.specs.declared.error.BodyFault.{BodyFault}
use Rattle.web_fields.specs.declared.error.BodyFault.TheVariants as faults
use Rattle.web_responses.specs.Statuses.{is_given}
use Rattle.web_responses.specs.Faults.{field_fault, invalid_data, invalid_page, invalid_token, method_not_allowed, no_credentials, not_found, parse_error}
use Rattle.web_bodies.specs.Body.{read_command, read_move, read_scan}
use Rattle.web_api.specs.declared.endpoint.Endpoint.{Endpoint}
use Rattle.web_api.specs.declared.endpoint.Endpoint.TheVariants as endpoints
use Rattle.web_api.specs.declared.path.Target.{Target}
use Rattle.web_api.specs.Call.{call_authorized, call, call_by, call_of, fault_response, list_call, missing, redeem_call, refused_by, write_call}
use Rattle.web_api.specs.Endpoints.{endpoint_of, methods_of}
use Rattle.web_api.specs.Page.{page_of}
use Rattle.web_api.specs.Path.{target_of, ticket_named}
use Rattle.web_api.specs.Statuses.{IsRefusedByGiven, status_of}
use Rattle.web_api.specs.Token.{token_of}
use Rattle.web_api.specs.Verbs.{is_write, verb_of}

body_given : (fault : BodyFault) → is_given (fault_response fault).status ≡ true
unfolding parse_error invalid_data field_fault
body_given faults.NotJson = refl
body_given faults.InvalidData = refl
body_given (faults.Field fault) = refl

not_found_given : is_given not_found.status ≡ true
unfolding not_found
not_found_given = refl

by_given : (write : Bool) (response : Response) → is_given response.status ≡ true → IsRefusedByGiven (refused_by write response)
by_given true response given = given
by_given false response given = given

method_given : (method : List ℕ) (methods : Methods) → is_given (method_not_allowed method methods).status ≡ true
unfolding method_not_allowed
method_given method methods = refl

written_given : (read : Result Command BodyFault) → IsRefusedByGiven (write_call read)
written_given (Ok command) = tt
written_given (Err fault) = body_given fault

missing_given : (read : Result Move BodyFault) → IsRefusedByGiven (missing read)
missing_given (Ok move) = not_found_given
missing_given (Err fault) = body_given fault

redeemed_given : (list : ℕ) (ticket : Option (List ℕ)) (read : Result Scan BodyFault) → IsRefusedByGiven (redeem_call list ticket read)
redeemed_given list ticket (Ok scan) = tt
redeemed_given list ticket (Err fault) = body_given fault

listed_given : (resource : Resource) (page : Option ℕ) → IsRefusedByGiven (list_call resource page)
unfolding invalid_page
listed_given resource None = refl
listed_given resource (Some page) = tt

at_given : (m : Message) (ticket : Option (List ℕ)) (target : Target) (endpoint : Option Endpoint) → IsRefusedByGiven (call_by m ticket target endpoint)
at_given m ticket target None = by_given (is_write (verb_of m.method)) (method_not_allowed m.method (methods_of target)) (method_given m.method (methods_of target))
at_given m ticket target (Some (endpoints.Page resource)) = listed_given resource (page_of m.target)
at_given m ticket target (Some (endpoints.Read query)) = tt
at_given m ticket target (Some (endpoints.Write form)) = written_given (read_command form m.body)
at_given m ticket target (Some endpoints.ReadMissing) = not_found_given
at_given m ticket target (Some (endpoints.MoveMissing name)) = missing_given (read_move name m.body)
at_given m ticket target (Some (endpoints.Redeem list)) = redeemed_given list ticket (read_scan m.body)

of_given : (m : Message) (ticket : Option (List ℕ)) (target : Option Target) → IsRefusedByGiven (call_of m ticket target)
of_given m ticket None = by_given (is_write (verb_of m.method)) not_found not_found_given
of_given m ticket (Some target) = at_given m ticket target (endpoint_of target (verb_of m.method))

token_given : (token : Option (List ℕ)) (known : Option ℕ) (m : Message) (ticket : Option (List ℕ)) (target : Option Target) → IsRefusedByGiven (call_authorized token known (call_of m ticket target))
unfolding no_credentials invalid_token
token_given None known m ticket target = refl
token_given (Some token) None m ticket target = refl
token_given (Some token) (Some known) m ticket target = of_given m ticket target

pub call_given : (organizer event : List ℕ) (m : Message) (known : Option ℕ) → IsRefusedByGiven (call organizer event m known)
unfolding call
call_given organizer event m known = token_given (token_of m) known m (ticket_named organizer event m.target) (target_of organizer event m.target)

-- ---- answers

pub text_given : (answer : Answer) (closes : Bool) → (allow : Option Methods) × (body : List ℕ) × (text answer closes ≡ answer_text (status_of answer) allow body closes)
text_given (Decided response) closes = (response.allow, response.body, refl)
text_given Unavailable closes = (None, unavailable_body, refl)
