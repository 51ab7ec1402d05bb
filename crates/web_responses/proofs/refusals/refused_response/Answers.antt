use Rattle.std.proofs.Common.{ap, ◌∙◌}
use Rattle.serde_json.specs.Written.{has_float}
use Rattle.web_responses.proofs.ResultFloats.{refusal_no_float}
use Rattle.web_responses.proofs.refusals.refused_response.Goals as goal

pub value_response-requires : goal.value_response-requires
value_response-requires c = ap has_float c.in_ok-value.ensures ∙ refusal_no_float c.args.kind c.args.refusal
