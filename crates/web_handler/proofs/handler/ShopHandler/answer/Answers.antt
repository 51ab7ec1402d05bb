use Rattle.web_arrivals.specs.HandlerView.{trait_meaning, reply_worded}
use Rattle.web_handler.proofs.HandlerLemmas.{unavailable}
use Rattle.web_handler.proofs.handler.ShopHandler.answer.Goals as goal

pub returns-in-Err-clause-once : goal.returns-in-Err-clause-once
returns-in-Err-clause-once g c = λ sure.
    unavailable (trait_meaning g.T.Tables) (reply_worded c.args.self.now) c.args.self.now _
