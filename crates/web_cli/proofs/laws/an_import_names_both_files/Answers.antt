use Rattle.web_cli.proofs.LineLaws.{imports_vouchers, no_csv}
use Rattle.web_cli.proofs.laws.an_import_names_both_files.Goals as goal

pub returns : goal.returns
returns c = λ program. (imports_vouchers program, no_csv program)
