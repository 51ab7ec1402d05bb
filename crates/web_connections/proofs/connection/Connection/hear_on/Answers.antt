use Rattle.std.proofs.Common.{ap, sym, ◌∙◌}
use Rattle.web_connections.specs.Exchanges.{ConnectionState}
use Rattle.web_connections.proofs.TurnLemmas.{hears_on}
use Rattle.web_connections.proofs.connection.Connection.hear_on.Goals as goal

pub returns-in-Waits-clause-moves : goal.returns-in-Waits-clause-moves
returns-in-Waits-clause-moves g c = hears_on _ _ (ap (λ (s : ConnectionState). s.phase) (sym c.self.view_is) ∙ c.in-Waits.is) c.hear.ensures
