-- What became of the entries of a bulk call, as JSON.
use Rattle.std.specs.Prelude.{List, Bool, true, false, map, codes}
use Rattle.serde_json.specs.Data.{Data, boolean, null, object, member, no_members}
use Rattle.model_faults.specs.declared.fields.EntryFault.{EntryFault}
use Rattle.model_faults.specs.declared.fields.EntryFault.TheVariants as entry_faults
use Rattle.model_commands.specs.declared.requests.Kind.TheVariants as kinds
use Rattle.model_commands.specs.declared.replies.Refusal.TheVariants as refusals
use Rattle.model_commands.specs.declared.carts.Outcome.{Outcome}
use Rattle.model_commands.specs.declared.carts.Outcome.TheVariants as outcomes
use Rattle.web_json.specs.Values.{list}
use Rattle.web_json.specs.Rows.{cart_body}
use Rattle.web_responses.specs.Faults.{invalid_data_body, fault_body}
use Rattle.web_responses.specs.Refusals.{refusal_data}

-- what is wrong with an entry, as a request of its own is told it
abbrev pub entry_fault_body : EntryFault → Data
entry_fault_body entry_faults.InvalidData = invalid_data_body
entry_fault_body (entry_faults.Field fault) = fault_body fault

-- `{"data":D,"errors":E,"success":B}`
abbrev pub result_body : Data → Data → Bool → Data
result_body shown errors success = object (
    member (codes "data") shown
    (member (codes "errors") errors
    (member (codes "success") (boolean success)
    no_members)))

-- an added cart position is shown; for any other entry the errors are the body that a request for it alone is told
abbrev pub outcome_body : Outcome → Data
outcome_body (outcomes.Added cart) = result_body (cart_body cart) null true
outcome_body (outcomes.Refused refusal) = result_body null (refusal_data kinds.AddCart (refusals.Order refusal)) false
outcome_body (outcomes.Faulty fault) = result_body null (entry_fault_body fault) false

-- `{"results":[..]}`, with a result for each entry
abbrev pub results_body : List Outcome → Data
results_body outcomes = object (member (codes "results") (list (map outcome_body outcomes)) no_members)
