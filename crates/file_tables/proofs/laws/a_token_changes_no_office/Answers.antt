use Rattle.file_tables.proofs.Begins.{token_stands, token_free}
use Rattle.file_tables.proofs.laws.a_token_changes_no_office.Goals as goal

pub returns-clause-stands : goal.returns-clause-stands
returns-clause-stands c = λ old shop token t state answers moment next h. token_stands old shop token t state answers moment next h

pub returns-clause-free : goal.returns-clause-free
returns-clause-free c = λ shop token t number h. token_free shop token t number h
