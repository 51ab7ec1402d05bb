use Rattle.web_connection.proofs.CountLemmas.{numbers_counted}
use Rattle.web_connection.proofs.laws.numbers_are_counted.Goals as goal

pub returns : goal.returns
returns c = numbers_counted
