use Rattle.web_cli.proofs.LineLaws.{no_report, reports_door, reports_sales}
use Rattle.web_cli.proofs.laws.a_report_is_known_by_its_place.Goals as goal

pub returns : goal.returns
returns c = λ program list. (reports_sales program, reports_door program list, no_report program)
