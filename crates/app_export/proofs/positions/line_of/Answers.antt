use Rattle.std.proofs.Common.{rules}
use Rattle.file_reads.proofs.Loads.{is_row}
use Rattle.app_export.proofs.positions.line_of.Goals as goal

pub returns-clause-line : goal.returns-clause-line
returns-clause-line c =
    is_row c.args.row.now _ (search rules)
    (c.in_ok-read.ensures.value, (c.in_ok-read-2.ensures.value, (c.in_ok-read-3.ensures.value, (c.in_ok-read-4.ensures.value, (c.in_ok-read-5.ensures.value, (c.in_ok-read-6.ensures.value, (c.in_ok-read-7.ensures.value, (c.in_ok-read-8.ensures.value, tt))))))))
