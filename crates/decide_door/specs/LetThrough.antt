-- A scan that was let through, as laws speak of it.
use Rattle.std.specs.Prelude.{◌≡◌, ℕ, Ok}
use Rattle.model_rows.specs.declared.rows.OrderPos.{OrderPos}
use Rattle.model_rows.specs.Lists.{State}
use Rattle.model_commands.specs.declared.doors.Ticket.{Ticket}
use Rattle.model_commands.specs.declared.doors.Scan.{Scan}
use Rattle.decide_door.specs.Scanned.{ticket_scanned}

-- a ticket was scanned by the check-in list of an id and let through: the box office before and after it, and the ticket's position
pub record LetThrough : Type 0 where
  pub list : ℕ
  pub ticket : Ticket
  pub scan : Scan
  pub before : State
  pub after : State
  pub position : OrderPos
  pub passed : ticket_scanned list ticket scan before ≡ Ok (after, position)
