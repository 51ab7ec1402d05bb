use Rattle.std.proofs.Common.{◌∙◌, [], ap, sym}
use Rattle.std.proofs.lemmas.Result.{err_from_is_err_and}
use Rattle.web_cli.specs.Asked.{asked_by}
use Rattle.web_cli.proofs.WordLemmas.{asked_found, reason_of, told_both}
use Rattle.web_cli.proofs.words.read_line.Goals as goal

pub returns-in_err-matches-clause-err : goal.returns-in_err-matches-clause-err
returns-in_err-matches-clause-err c =
    let p = err_from_is_err_and c.from_residual-in_err-matches.result c.from_residual-in_err-matches.ensures.1 in
    rw (p.1, p.2) (reason_of _ _ c.in_err-matches.field-0.0 c.in_ok-commands.ensures c.in_err-matches.ensures.kinds)

pub returns-in-Some-clause-ok : goal.returns-in-Some-clause-ok
returns-in-Some-clause-ok c =
    let parse = c.in_ok-matches.ensures in
    let found = told_both _ _ _ _ c.in-Some.ensures.name c.in-Some.ensures.rows in
    asked_found _ _ _ _ c.in_ok-commands.ensures parse.kinds parse.matches ∙ (ap (asked_by []) found ∙ sym c.line_of.ensures)
