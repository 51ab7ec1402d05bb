use Rattle.std.proofs.Common.{sym}
use Rattle.web_api.proofs.Secrets.{secret_known, secret_unknown}
use Rattle.web_api.proofs.tickets.secret_in.Goals as goal

pub returns-in_ok-copy_of-in-Ok : goal.returns-in_ok-copy_of-in-Ok
returns-in_ok-copy_of-in-Ok c =
    secret_known c.args.text.now c.in-Ok.secret.now c.in_ok-copy_of-in-Ok.field-0 c.in-Ok.ensures.cases.0 c.in-Ok.ensures.cases.1 (sym c.if-is_text.ensures) c.in_ok-copy_of-in-Ok.ensures

pub returns-in-Err : goal.returns-in-Err
returns-in-Err c = secret_unknown c.args.text.now c.in-Err.ensures.cases.0
