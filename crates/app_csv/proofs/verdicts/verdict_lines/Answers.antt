use Rattle.std.proofs.Common.{◌∙◌, sym, drop, arith}
use Rattle.app_csv.proofs.Said.{all_said}
use Rattle.app_csv.proofs.verdicts.verdict_lines.Goals as goal

pub returns : goal.returns
returns c =
    let here = c.loop-verdict in
    sym (all_said here.text.items (drop here.at c.args.codes.now) here.verdict-index c.args.verdicts.now (omega (arith, c.loop-verdict-test.false))) ∙ here.invariant.1
