use Rattle.web_api.proofs.ShopPaths.{named_alone, named_with_query}
use Rattle.web_api.proofs.laws.each_path_names_its_target.Goals as goal

pub returns-clause-alone : goal.returns-clause-alone
returns-clause-alone c = named_alone

pub returns-clause-with_query : goal.returns-clause-with_query
returns-clause-with_query c = named_with_query
