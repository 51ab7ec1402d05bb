use Rattle.std.proofs.lemmas.Result.{IfOk-weaker}
use Rattle.web_cli.proofs.WordLemmas.{third_is_false}
use Rattle.web_cli.proofs.words.with.Goals as goal

pub returns : goal.returns
returns c = IfOk-weaker c.subcommand.result _ _ (λ command added. (c.in_ok-made.field-0, c.in_ok-made.was, λ plain. added.shape (third_is_false _ _ _ _ plain))) c.subcommand.ensures
