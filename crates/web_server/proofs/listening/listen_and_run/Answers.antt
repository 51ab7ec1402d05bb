use Rattle.std.proofs.Common.{inl, inr, refl, Ok, Err}
use Rattle.web_connection.specs.Run.{AtTick}
use Rattle.web_http.specs.Written.{Page}
use Rattle.web_cli.proofs.SayLemmas.{says_listening}
use Rattle.web_server.specs.Clock.{IsRead}
use Rattle.web_server.proofs.RoundLemmas.{answers_none, answers_unsaid}
use Rattle.web_server.proofs.listening.listen_and_run.Goals as goal

pub returns-in_default-clause-said : goal.returns-in_default-clause-said
returns-in_default-clause-said g c = inr (refl, (_, refl))

pub returns-in_default-clause-leads : goal.returns-in_default-clause-leads
returns-in_default-clause-leads g c = answers_none (AtTick (IsRead g.R.System.shows g.R.System.gives) g.D.Handler.serves) _ _ _ _ _ _ refl c.listen.ensures.came (inl refl)

pub returns-in-Ok-say-clause-said : goal.returns-in-Ok-say-clause-said
returns-in-Ok-say-clause-said g c =
    let old : Page = record { taken = g.W.Drain.taken c.args.writer.now; failures = g.W.Drain.failures c.args.writer.now } in
    let new : Page = record { taken = g.W.Drain.taken c.say.new.writer; failures = g.W.Drain.failures c.say.new.writer } in
    says_listening _ _ old new (Ok c.in-Ok-say.field-0) _ c.as_bytes.ensures.value c.in-Ok-say.ensures tt

pub returns-in-Err-clause-said : goal.returns-in-Err-clause-said
returns-in-Err-clause-said g c =
    let old : Page = record { taken = g.W.Drain.taken c.args.writer.now; failures = g.W.Drain.failures c.args.writer.now } in
    let new : Page = record { taken = g.W.Drain.taken c.say.new.writer; failures = g.W.Drain.failures c.say.new.writer } in
    says_listening _ _ old new (Err c.in-Err.refused) _ c.as_bytes.ensures.value c.in-Err.ensures c.end_said.ensures

pub returns-in-Err-clause-leads : goal.returns-in-Err-clause-leads
returns-in-Err-clause-leads g c = rw c.end_said.ensures (answers_unsaid (AtTick (IsRead g.R.System.shows g.R.System.gives) g.D.Handler.serves) _ _ _ _ _ refl c.listen.ensures.came)

pub returns-in-Ok-say-clause-leads : goal.returns-in-Ok-say-clause-leads
returns-in-Ok-say-clause-leads g c = rw c.listen.ensures.came at c.run_network.ensures.answers
