use Rattle.file_scan.specs.Read.{tables_of}
use Rattle.file_open.proofs.OfVersion.{read_itself, stand_supplied}
use Rattle.file_open.proofs.Reasons.{why_as}
use Rattle.file_open.proofs.earlier.open_supplied.Goals as goal

pub returns-in-Ok-open_rows-clause-held : goal.returns-in-Ok-open_rows-clause-held
returns-in-Ok-open_rows-clause-held g c = λ fit.
    stand_supplied c.args.own c.args.file c.in-Ok.full c.in-Ok.ensures.tables (c.in-Ok.ensures.limits fit) c.in-Ok-open_rows.ensures.numbered c.in-Ok-open_rows.reopened.head c.in-Ok-open_rows.ensures.head _
    (c.in-Ok-open_rows.ensures.held (tables_of c.in-Ok.full) (read_itself c.in-Ok.full)).0

pub returns-in-Err-open_rows-clause-refused : goal.returns-in-Err-open_rows-clause-refused
returns-in-Err-open_rows-clause-refused g c = why_as c.args.own c.args.file c.in-Ok.full c.in-Ok.ensures.tables c.in-Err-open_rows.error c.in-Err-open_rows.ensures.refused
