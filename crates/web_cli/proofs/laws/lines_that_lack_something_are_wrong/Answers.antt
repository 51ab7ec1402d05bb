use Rattle.web_cli.proofs.LineLaws.{no_command, no_flags, no_from, no_step}
use Rattle.web_cli.proofs.laws.lines_that_lack_something_are_wrong.Goals as goal

pub returns : goal.returns
returns c = λ program text. (no_command program, no_flags program, no_step program text, no_from program text)
