use Rattle.sqlite.specs.Held.{state}
use Rattle.file_tables.proofs.ShopLemmas.{still_house}
use Rattle.file_tables.proofs.sql.SqlTablesTables.find_kept.Goals as goal

pub returns-in-Ok-clause-house : goal.returns-in-Ok-clause-house
returns-in-Ok-clause-house g c clean house of =
    still_house c.args.self.now.head c.args.self.now.next_row (state g.S.Store c.args.self.now.connection) (state g.S.Store c.find_answer.new.connection) house clean (c.find_answer.ensures.still clean) c.find_answer.ensures.crash of

pub returns-in-Err-clause-house : goal.returns-in-Err-clause-house
returns-in-Err-clause-house g c clean house of =
    still_house c.args.self.now.head c.args.self.now.next_row (state g.S.Store c.args.self.now.connection) (state g.S.Store c.find_answer.new.connection) house clean (c.find_answer.ensures.still clean) c.find_answer.ensures.crash of
