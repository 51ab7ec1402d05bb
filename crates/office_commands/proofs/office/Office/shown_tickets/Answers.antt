use Rattle.std.proofs.Common.{List, map, take, drop, ap, ◌∙◌}
use Rattle.model_rows.specs.declared.rows.OrderPos.{OrderPos}
use Rattle.model_rows.specs.Lists.{State}
use Rattle.model_commands.specs.declared.doors.ListedTicket.{ListedTicket}
use Rattle.model_commands.specs.declared.replies.Shown.TheVariants.{Ticket}
use Rattle.office_other.specs.Machine.{belonging, ticket_of, show_ticket}
use Rattle.model_commands.proofs.PageRows.{map_twice}
use Rattle.office_commands.proofs.office.Office.shown_tickets.Goals as goal

pub returns : goal.returns
returns g c =
    let list = c.args.list.now in
    let state : State = g.B.Book.state c.book.result.now in
    let rows : State → List OrderPos = λ s. take 50 (drop c.args.before (belonging list s.lists)) in
    c.new.ensures
    ∙ (c.in_ok-all_shown.ensures
    ∙ (ap (λ (tickets : List ListedTicket). map (λ ticket. Ticket ticket) tickets) c.in_ok-tickets.ensures
    ∙ (map_twice (ticket_of list state.lists) (λ ticket. Ticket ticket) (rows state) ∙ ap (λ (s : State). map (show_ticket list s.lists) (rows s)) c.book.ensures.state)))
