use Rattle.sqlite.specs.Held.{state}
use Rattle.file_tables.proofs.ShopLemmas.{still_house, tells_tokens}
use Rattle.file_tables.proofs.sql.SqlTablesTables.token_of.Goals as goal

pub returns-in-Ok-clause-found : goal.returns-in-Ok-clause-found
returns-in-Ok-clause-found g c clean house of =
    c.in-Ok.ensures.found clean house.tokens (tells_tokens c.args.self.now.head c.args.self.now.next_row (state g.S.Store c.args.self.now.connection).now house (of.now (c.in-Ok.ensures.open clean)))

pub returns-in-Ok-clause-house : goal.returns-in-Ok-clause-house
returns-in-Ok-clause-house g c clean house of =
    still_house c.args.self.now.head c.args.self.now.next_row (state g.S.Store c.args.self.now.connection) (state g.S.Store c.find_number.new.connection) house clean (c.find_number.ensures.still clean) c.find_number.ensures.crash of

pub returns-in-Err-clause-house : goal.returns-in-Err-clause-house
returns-in-Err-clause-house g c clean house of =
    still_house c.args.self.now.head c.args.self.now.next_row (state g.S.Store c.args.self.now.connection) (state g.S.Store c.find_number.new.connection) house clean (c.find_number.ensures.still clean) c.find_number.ensures.crash of
