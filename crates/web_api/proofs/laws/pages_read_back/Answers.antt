use Rattle.web_api.proofs.PagePaths.{page_back, list_back}
use Rattle.web_api.proofs.laws.pages_read_back.Goals as goal

pub returns-clause-page : goal.returns-clause-page
returns-clause-page c = page_back

pub returns-clause-list : goal.returns-clause-list
returns-clause-list c = list_back
