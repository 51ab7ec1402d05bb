-- Messages as arrivals.
use Rattle.std.specs.Prelude.{ℕ, List, Option, Result, Ok, Err, unwrap_or, option_map, option_and_then}
use Rattle.sha2.specs.Sha256.{sha256}
use Rattle.base_values.specs.declared.answer.Response.{Response}
use Rattle.base_devices.specs.declared.device.Tick.{Tick}
use Rattle.web_http.specs.Messages.{Message}
use Rattle.web_api.specs.declared.call.Call.{Call}
use Rattle.web_api.specs.declared.call.Call.TheVariants as calls
use Rattle.web_api.specs.Call.{call}
use Rattle.web_api.specs.Key.{key_of}
use Rattle.web_api.specs.Token.{token_of}
use Rattle.office_deliveries.specs.declared.arrival.Arrival.{Arrival}
use Rattle.office_deliveries.specs.declared.arrival.Request.{Request}
use Rattle.office_deliveries.specs.declared.arrival.Request.TheVariants as requests
use Rattle.web_arrivals.specs.HandlerView.{House}

-- the number of the token that a message shows, by the SHA-256 digest of its text; none where it shows none, or that isn't known
abbrev pub number_of : (List ℕ → Option ℕ) → Message → Option ℕ
number_of tokens m = option_and_then tokens (option_map sha256 (token_of m))

-- a request at a tick, under the number of a token and a key
abbrev pub arriving : Tick → ℕ → List ℕ → Request → Arrival
arriving tick token key request = record { clock = tick.clock; draw = tick.draw; token = token; key = key; request = request }

-- the arrival that a call is; 401 is none, and what is told without one
abbrev pub arrival_of : Tick → ℕ → List ℕ → Call → Result Arrival Response
arrival_of tick token key (calls.Unauthorized response) = Err response
arrival_of tick token key (calls.Read query) = Ok (arriving tick token key (requests.Read query))
arrival_of tick token key (calls.ReadRefused response) = Ok (arriving tick token key (requests.ReadRefused response))
arrival_of tick token key (calls.Write command) = Ok (arriving tick token key (requests.Write command))
arrival_of tick token key (calls.WriteRefused response) = Ok (arriving tick token key (requests.WriteRefused response))

-- the arrival that a message is at a tick, where its token has this number, or none
abbrev pub arrival_with : List ℕ → List ℕ → Option ℕ → Tick → Message → Result Arrival Response
arrival_with organizer event number tick m = arrival_of tick (unwrap_or number 0) (key_of m) (call organizer event m number)

-- the arrival that a message is at a tick, in this house
abbrev pub arrival : House → Tick → Message → Result Arrival Response
arrival house tick m = arrival_with house.organizer house.event (number_of house.tokens m) tick m
