use Rattle.file_tables.proofs.Begins.{begins_empty, begins_free}
use Rattle.file_tables.proofs.laws.a_shop_begins_empty.Goals as goal

pub returns-clause-stands : goal.returns-clause-stands
returns-clause-stands c = λ shop moment next. begins_empty shop moment next

pub returns-clause-free : goal.returns-clause-free
returns-clause-free c = λ shop number. begins_free shop number
