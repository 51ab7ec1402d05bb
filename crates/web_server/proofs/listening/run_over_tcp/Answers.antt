use Rattle.std.proofs.Common.{inl, inr, refl}
use Rattle.web_connection.specs.Run.{AtTick}
use Rattle.web_server.specs.Clock.{IsRead}
use Rattle.web_server.proofs.RoundLemmas.{answers_none}
use Rattle.web_server.proofs.listening.run_over_tcp.Goals as goal

pub returns-in_default-clause-leads : goal.returns-in_default-clause-leads
returns-in_default-clause-leads g c = answers_none (AtTick (IsRead g.R.System.shows g.R.System.gives) g.D.Handler.serves) _ _ _ _ _ _ refl refl (inl refl)

pub returns-in_default-clause-said : goal.returns-in_default-clause-said
returns-in_default-clause-said g c = inr (refl, (_, refl))

pub returns-in_default-try_clone-clause-leads : goal.returns-in_default-try_clone-clause-leads
returns-in_default-try_clone-clause-leads g c = answers_none (AtTick (IsRead g.R.System.shows g.R.System.gives) g.D.Handler.serves) _ _ _ _ _ _ refl refl (inl refl)

pub returns-clause-leads : goal.returns-clause-leads
returns-clause-leads g c = answers_none (AtTick (IsRead g.R.System.shows g.R.System.gives) g.D.Handler.serves) _ _ _ _ _ _ refl refl (inr refl)
