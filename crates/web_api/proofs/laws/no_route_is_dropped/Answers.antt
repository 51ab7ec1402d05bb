use Rattle.web_api.proofs.InTable.{in_table}
use Rattle.web_api.proofs.laws.no_route_is_dropped.Goals as goal

pub returns : goal.returns
returns c = in_table
