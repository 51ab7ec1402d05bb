-- What a message asks for: the token, the path, the method, the page or the body as JSON and its fields, in that order.
use Rattle.std.specs.Prelude.{ℕ, Bool, true, false, List, Option, Some, None, Result, Ok, Err}
use Rattle.base_values.specs.declared.answer.Response.{Response}
use Rattle.web_http.specs.Messages.{Message}
use Rattle.model_commands.specs.declared.requests.Command.{Command}
use Rattle.model_commands.specs.declared.requests.Command.TheVariants as commands
use Rattle.model_commands.specs.declared.doors.Scan.{Scan}
use Rattle.model_commands.specs.declared.orders.Move.{Move}
use Rattle.model_commands.specs.declared.requests.Query.TheVariants as queries
use Rattle.model_commands.specs.declared.requests.Resource.{Resource}
use Rattle.web_responses.specs.Faults.{no_credentials, invalid_token, not_found, invalid_page, method_not_allowed, parse_error, invalid_data, field_fault}
use Rattle.web_fields.specs.declared.error.BodyFault.{BodyFault}
use Rattle.web_fields.specs.declared.error.BodyFault.TheVariants as faults
use Rattle.web_api.specs.declared.call.Call.{Call}
use Rattle.web_api.specs.declared.call.Call.TheVariants as calls
use Rattle.web_api.specs.declared.endpoint.Endpoint.{Endpoint}
use Rattle.web_api.specs.declared.endpoint.Endpoint.TheVariants as endpoints
use Rattle.web_api.specs.declared.path.Target.{Target}
use Rattle.web_api.specs.Token.{token_of}
use Rattle.web_api.specs.Path.{target_of, ticket_named}
use Rattle.web_api.specs.Tickets.{ticket_in}
use Rattle.web_api.specs.Page.{page_of}
use Rattle.web_api.specs.Verbs.{verb_of, is_write}
use Rattle.web_api.specs.Endpoints.{endpoint_of, methods_of}
use Rattle.web_bodies.specs.Body.{read_command, read_move, read_scan}

-- the words for a body that isn't read: 400
abbrev pub fault_response : BodyFault → Response
fault_response faults.NotJson = parse_error
fault_response faults.InvalidData = invalid_data
fault_response (faults.Field fault) = field_fault fault

-- a refused request counts as a write or a read by its method
abbrev pub refused_by : Bool → Response → Call
refused_by true response = calls.WriteRefused response
refused_by false response = calls.ReadRefused response

-- a write whose body isn't read
abbrev pub refused_body : BodyFault → Call
refused_body fault = calls.WriteRefused (fault_response fault)

-- a write with the command that its body says
abbrev pub write_call : Result Command BodyFault → Call
write_call (Ok command) = calls.Write command
write_call (Err fault) = refused_body fault

-- a move of an order that there isn't: its body is read first, and only then it is 404
abbrev pub missing : Result Move BodyFault → Call
missing (Ok move) = calls.WriteRefused not_found
missing (Err fault) = refused_body fault

-- a scan of the ticket that the path names, at a check-in list
abbrev pub redeem_call : ℕ → Option (List ℕ) → Result Scan BodyFault → Call
redeem_call door ticket (Ok scan) = calls.Write (commands.Redeem door (ticket_in ticket) scan)
redeem_call door ticket (Err fault) = refused_body fault

-- a page of a list: 404 where its number can't be read
abbrev pub list_call : Resource → Option ℕ → Call
list_call resource None = calls.ReadRefused invalid_page
list_call resource (Some page) = calls.Read (queries.List resource page)

-- at a target, with the text in the place of a ticket: 405 where the target hasn't that method; the body of a read isn't
-- looked at
abbrev pub call_by : Message → Option (List ℕ) → Target → Option Endpoint → Call
call_by m ticket target None = refused_by (is_write (verb_of m.method)) (method_not_allowed m.method (methods_of target))
call_by m ticket target (Some (endpoints.Page resource)) = list_call resource (page_of m.target)
call_by m ticket target (Some (endpoints.Read query)) = calls.Read query
call_by m ticket target (Some (endpoints.Write form)) = write_call (read_command form m.body)
call_by m ticket target (Some endpoints.ReadMissing) = calls.ReadRefused not_found
call_by m ticket target (Some (endpoints.MoveMissing name)) = missing (read_move name m.body)
call_by m ticket target (Some (endpoints.Redeem door)) = redeem_call door ticket (read_scan m.body)

-- at a target, by what the message's method asks for there
abbrev pub call_at : Message → Option (List ℕ) → Target → Call
call_at m ticket target = call_by m ticket target (endpoint_of target (verb_of m.method))

-- with a known token: 404 where the target names nothing
abbrev pub call_of : Message → Option (List ℕ) → Option Target → Call
call_of m ticket None = refused_by (is_write (verb_of m.method)) not_found
call_of m ticket (Some target) = call_at m ticket target

-- 401 where the message has no token, or one that isn't known
abbrev pub call_authorized : Option (List ℕ) → Option ℕ → Call → Call
call_authorized None known call = calls.Unauthorized no_credentials
call_authorized (Some token) None call = calls.Unauthorized invalid_token
call_authorized (Some token) (Some known) call = call

-- what a message asks for in the shop of those slugs, where known is the row of its token
unfoldable pub call : List ℕ → List ℕ → Message → Option ℕ → Call
call organizer event m known = call_authorized (token_of m) known (call_of m (ticket_named organizer event m.target) (target_of organizer event m.target))
