use Rattle.web_cli.proofs.LineLaws.{in_order, turned}
use Rattle.web_cli.proofs.laws.both_flags_ask_for_a_run.Goals as goal

pub returns-clause-in_order : goal.returns-clause-in_order
returns-clause-in_order c = in_order

pub returns-clause-turned : goal.returns-clause-turned
returns-clause-turned c = turned
