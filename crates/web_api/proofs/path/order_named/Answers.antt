use Rattle.web_api.proofs.OrderNames.{unnamed}
use Rattle.web_api.proofs.path.order_named.Goals as goal

pub returns-in-Err : goal.returns-in-Err
returns-in-Err c = unnamed c.args.code.now c.in-Err.ensures.cases.0
