-- How far the code of an import has come. The rules say it at once.
use Rattle.std.specs.Prelude.{List, ◌++◌}
use Rattle.model_rows.specs.Lists.{State}
use Rattle.model_commands.specs.declared.vouchers.Verdict.{Verdict}

-- verdicts in front of others
abbrev pub after_verdicts : List Verdict → State × List Verdict → State × List Verdict
after_verdicts verdicts rest = (rest.0, verdicts ++ rest.1)
