use Rattle.std.proofs.Common.{ap, ◌∙◌}
use Rattle.serde_json.specs.Written.{has_float}
use Rattle.web_json.proofs.Floats.{voucher_no_float}
use Rattle.web_json.proofs.rows.append_voucher.Goals as goal

pub append_value-requires : goal.append_value-requires
append_value-requires c = ap has_float c.in_ok-value.ensures ∙ voucher_no_float c.args.voucher.now c.args.redeemed
