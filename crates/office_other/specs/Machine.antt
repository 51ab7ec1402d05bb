-- What the office is held to, passed on: steps, answers, and how rows are shown.
pub use Rattle.office_step.specs.IsStep.{CanBegin, IsStep}
pub use Rattle.office_step.specs.Answer.{belonging, list_of, one_of, status_told, ticket_if, answer}
pub use Rattle.office_step.specs.ShownRows.{ticket_of, show_ticket, show_item, show_quota, show_voucher, show_cart, show_order, show_waiting, show_checkin_list}
