use Rattle.std.proofs.Common.{◌∙◌, sym, ap}
use Rattle.csv.specs.Reading.{default_config, strip_bom}
use Rattle.csv.specs.declared.parser.State.TheVariants as states
use Rattle.app_csv.specs.VoucherFile.{rows_read}
use Rattle.app_csv.proofs.OneReading.{one_reading}
use Rattle.app_csv.proofs.laws.a_file_reads_in_one_way.Goals as goal

pub returns : goal.returns
returns c = λ text one other first second.
    let a = first.are_lines in
    let b = second.are_lines in
    let lines = one_reading default_config states.StartRecord (strip_bom text) first.lines second.lines a.0 b.0 a.1 b.1 a.2 a.3 b.2 b.3 in
    first.is_read ∙ (ap rows_read lines ∙ sym second.is_read)
