use Rattle.std.proofs.Common.{◌%◌, arith}
use Rattle.base_values.proofs.CodeLemmas.{letter_ascii}
use Rattle.base_values.proofs.codes.letter.Goals as goal

pub returns-clause-ascii : goal.returns-clause-ascii
returns-clause-ascii c = letter_ascii (c.args.number % 28) (omega arith)
