use Rattle.web_cli.proofs.LineLaws.{no_listen, serves_and_logs, serves_shop, serves_so_many, signed_connections}
use Rattle.web_cli.proofs.laws.a_served_file_is_known_by_its_place.Goals as goal

pub returns-clause-served : goal.returns-clause-served
returns-clause-served c = serves_shop

pub returns-clause-counted : goal.returns-clause-counted
returns-clause-counted c = serves_so_many

pub returns-clause-logged : goal.returns-clause-logged
returns-clause-logged c = serves_and_logs

pub returns-clause-signed : goal.returns-clause-signed
returns-clause-signed c = signed_connections

pub returns-clause-lacking : goal.returns-clause-lacking
returns-clause-lacking c = no_listen
