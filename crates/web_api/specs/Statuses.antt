-- The statuses of answers.
use Rattle.std.specs.Prelude.{◌≡◌, ℕ, ⊤, true}
use Rattle.base_values.specs.declared.answer.Answer.{Answer}
use Rattle.base_values.specs.declared.answer.Answer.TheVariants.{Decided, Unavailable}
use Rattle.web_responses.specs.Statuses.{is_given}
use Rattle.web_api.specs.declared.call.Call.{Call}
use Rattle.web_api.specs.declared.call.Call.TheVariants as calls

-- the status of an answer
abbrev pub status_of : Answer → ℕ
status_of (Decided response) = response.status
status_of Unavailable = 503

-- a request that is refused before it is read as one has such a status
abbrev pub IsRefusedByGiven : Call → Type 0
IsRefusedByGiven (calls.Unauthorized response) = is_given response.status ≡ true
IsRefusedByGiven (calls.Read query) = ⊤
IsRefusedByGiven (calls.ReadRefused response) = is_given response.status ≡ true
IsRefusedByGiven (calls.Write command) = ⊤
IsRefusedByGiven (calls.WriteRefused response) = is_given response.status ≡ true
