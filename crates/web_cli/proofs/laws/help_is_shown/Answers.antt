use Rattle.web_cli.proofs.LineLaws.{shows_help, shows_help_of_feed}
use Rattle.web_cli.proofs.laws.help_is_shown.Goals as goal

pub returns : goal.returns
returns c = λ program. (shows_help program, shows_help_of_feed program)
