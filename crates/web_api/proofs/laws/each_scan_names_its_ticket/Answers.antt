use Rattle.web_api.proofs.ShopPaths.{ticket_alone, ticket_with_query}
use Rattle.web_api.proofs.laws.each_scan_names_its_ticket.Goals as goal

pub returns-clause-alone : goal.returns-clause-alone
returns-clause-alone c = ticket_alone

pub returns-clause-with_query : goal.returns-clause-with_query
returns-clause-with_query c = ticket_with_query
