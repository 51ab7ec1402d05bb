-- How the code lists a page of tickets, row by row. The rules say the page at once.
use Rattle.std.specs.Prelude.{ℕ, List}
use Rattle.model_rows.specs.declared.rows.OrderPos.{OrderPos}
use Rattle.model_rows.specs.declared.rows.CheckinList.{CheckinList}
use Rattle.model_rows.specs.Lists.{Lists}
use Rattle.model_commands.specs.declared.doors.ListedTicket.{ListedTicket}
use Rattle.decide_door.specs.Belongs.{belongs}
use Rattle.decide_door.specs.Status.{ticket_of, part}

-- the tickets so far, and of the rows that are left those that belong to the list
abbrev pub tickets_more : CheckinList → Lists → List ListedTicket → ℕ → ℕ → List OrderPos → List ListedTicket
tickets_more list lists shown skip most rows = part (ticket_of list lists) (belongs list lists) shown skip most rows
