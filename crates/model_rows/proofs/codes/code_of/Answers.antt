use Rattle.std.proofs.Common.{◌∙◌}
use Rattle.std.proofs.lemmas.Result.{IfOk-weaker}
use Rattle.model_rows.proofs.LastPlaces.{code_of_last_places}
use Rattle.model_rows.proofs.codes.code_of.Goals as goal

pub returns : goal.returns
returns c = IfOk-weaker c.order_code.result _ _ (λ code h. h ∙ code_of_last_places c.args.number) c.order_code.ensures
