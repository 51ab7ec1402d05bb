-- What a scanner shows of a ticket, by the text in a path.
use Rattle.std.specs.Prelude.{ℕ, ◌&&◌, List, Option, Some, None, if◌then◌else◌}
use Rattle.std.specs.Str.{is_utf8}
use Rattle.base_values.specs.Digits.{number_of}
use Rattle.base_values.specs.Texts.{is_text}
use Rattle.model_commands.specs.declared.doors.Ticket.{Ticket}
use Rattle.model_commands.specs.declared.doors.Ticket.TheVariants as tickets

-- a text that a secret can be is one, and any other is no ticket's
abbrev pub secret_in : List ℕ → Ticket
secret_in text = if is_utf8 text && is_text text then tickets.Secret text else tickets.Unreadable

-- 1 to 18 digits are an id, any other text is a secret
abbrev pub ticket_by : List ℕ → Option ℕ → Ticket
ticket_by text None = secret_in text
ticket_by text (Some id) = tickets.Position id

-- an id or a secret, by the text; a path without that text shows no ticket
unfoldable pub ticket_in : Option (List ℕ) → Ticket
ticket_in None = tickets.Unreadable
ticket_in (Some text) = ticket_by text (number_of text)
