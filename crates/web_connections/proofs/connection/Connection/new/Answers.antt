use Rattle.std.proofs.Common.{arith, subst, sym}
use Rattle.web_http.specs.Messages.{HasNone}
use Rattle.web_connections.proofs.TurnLemmas.{none_of_none}
use Rattle.web_connections.proofs.connection.Connection.new.Goals as goal

pub invariant_of-result : goal.invariant_of-result
invariant_of-result g c = record { within = omega arith; waits = λ is. subst HasNone (sym c.requires.frames) none_of_none }
