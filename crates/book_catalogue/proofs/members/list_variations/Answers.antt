use Rattle.book_catalogue.proofs.Listed.{listed}
use Rattle.book_catalogue.proofs.members.list_variations.Goals as goal

pub returns-in-None-clause-members : goal.returns-in-None-clause-members
returns-in-None-clause-members c = listed (λ q. q.variations) c.args.row.now c.args.quotas.now.rows c.args.index.now.rows c.relist.new.index.rows c.requires.members c.relist.ensures.rows

pub returns-in-Some-clause-members : goal.returns-in-Some-clause-members
returns-in-Some-clause-members c = listed (λ q. q.variations) c.args.row.now c.args.quotas.now.rows c.args.index.now.rows c.relist-in-Some.new.index.rows c.requires.members c.relist-in-Some.ensures.rows
