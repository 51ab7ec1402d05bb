-- The case of a ticket that comes in and goes out again, in a quota that releases its place then and in one that keeps it.
use Rattle.std.specs.Prelude.{ℕ, ◌+◌, ◌-◌, List, [], ◌∷◌, Some, None, true, false}
use Rattle.model_catalogue.specs.declared.rows.Quota.{Quota}
use Rattle.model_rows.specs.declared.rows.Checkin.{Checkin}
use Rattle.model_rows.specs.declared.rows.CheckinKind.{CheckinKind}
use Rattle.model_rows.specs.declared.rows.CheckinKind.TheVariants.{Entry, Exit}
use Rattle.model_rows.specs.declared.rows.Order.{Order}
use Rattle.model_rows.specs.declared.rows.OrderPos.{OrderPos}
use Rattle.model_rows.specs.declared.rows.Status.{Status}
use Rattle.model_rows.specs.declared.rows.Usage.{Usage}
use Rattle.model_rows.specs.Lists.{Lists}

-- 2026-05-01T19:00:00Z
abbrev pub doors : ℕ
doors = 1777662000

-- three hours later
abbrev pub evening : ℕ
evening = doors + 10800

-- a quota of five places for item 1, which lets the place of a ticket that has gone out be sold again
abbrev pub releasing : Quota
releasing = record { id = 1; name = []; release_after_exit = true; size = Some 5; items = 1 ∷ []; variations = [] }

-- the releasing quota, where it keeps the places of those who went out
abbrev pub keeping : Quota
keeping = record releasing { release_after_exit = false }

-- the ticket's order, of this status: made a day before the doors open, and to be paid an hour before
abbrev pub order_of : Status → Order
order_of status = record { id = 1; email = None; status = status; made_at = doors - 86400; expires = doors - 3600 }

-- the one ticket: of item 1, at 23.00
abbrev pub ticket : OrderPos
ticket = record { id = 1; order = 1; positionid = 1; product = record { item = 1; variation = None }; price = 2300; voucher = None; secret = []; discount = 0 }

-- the ticket comes in or goes out, by a check-in list and at a moment
abbrev pub ticket_seen : ℕ → ℕ → CheckinKind → ℕ → Checkin
ticket_seen id list kind at = record { id = id; list = list; position = 1; kind = kind; datetime = at; nonce = None }

-- the ticket comes in when the doors open
abbrev pub came_in : Checkin
came_in = ticket_seen 1 1 Entry doors

-- by another list, an hour later
abbrev pub went_out : Checkin
went_out = ticket_seen 2 2 Exit (doors + 3600)

-- the ticket comes in again by the first list, an hour after it went out
abbrev pub came_back : Checkin
came_back = ticket_seen 3 1 Entry (doors + 7200)

-- told after the entry, it was a minute before it
abbrev pub told_late : Checkin
told_late = ticket_seen 2 2 Exit (doors - 60)

-- what the doors have seen of it: it came in
abbrev pub inside : List Checkin
inside = came_in ∷ []

-- the ticket came in, and has gone out
abbrev pub outside : List Checkin
outside = came_in ∷ went_out ∷ []

-- the ticket came in, went out, and came in again
abbrev pub back : List Checkin
back = came_in ∷ went_out ∷ came_back ∷ []

-- the ticket came in, and an exit before that was reported afterwards
abbrev pub late : List Checkin
late = came_in ∷ told_late ∷ []

-- a shop with a single ticket of an order, and its check-ins
abbrev pub door : Status → List Checkin → Lists
door status checkins = record {
  catalogue = record {
    items = record { id = 1; name = []; default_price = 2300; active = true; varied = false } ∷ [];
    variations = [];
    quotas = releasing ∷ [];
  };
  vouchers = [];
  carts = [];
  orders = order_of status ∷ [];
  positions = ticket ∷ [];
  waiting = [];
  checkin_lists = [];
  checkins = checkins;
}

-- a usage in which this many are paid, this many are pending, and this many of the paid ones have gone out
abbrev pub places : ℕ → ℕ → ℕ → Usage
places paid pending exited = record { paid = paid; pending = pending; blocked = 0; carts = 0; waiting = 0; exited = exited }
