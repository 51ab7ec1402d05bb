use Rattle.std.proofs.Common.{ap, ◌∙◌}
use Rattle.serde_json.specs.Written.{has_float}
use Rattle.web_responses.proofs.ResultFloats.{outcome_no_float}
use Rattle.web_responses.proofs.results.OutcomeWriterWriteRowOutcome.append.Goals as goal

pub append_value-requires : goal.append_value-requires
append_value-requires c = ap has_float c.in_ok-value.ensures ∙ outcome_no_float c.args.row.now
