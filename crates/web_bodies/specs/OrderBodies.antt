-- The bodies of orders and of bulk calls, field by field in the order of their tests.
use Rattle.std.specs.Prelude.{ℕ, List, Option, Some, None, Result, Ok, Err, if◌then◌else◌, is_some, option_and_then, codes}
use Rattle.serde_json.specs.Data.{Data, Items}
use Rattle.serde_json.specs.Find.{as_object, as_str}
use Rattle.base_values.specs.Texts.{same_text}
use Rattle.model_commands.specs.declared.carts.Entry.{Entry}
use Rattle.model_commands.specs.declared.carts.Entry.TheVariants as entries
use Rattle.model_commands.specs.declared.carts.NewCart.{NewCart}
use Rattle.model_commands.specs.declared.orders.NewOrder.{NewOrder}
use Rattle.model_commands.specs.declared.orders.Start.{Start}
use Rattle.model_commands.specs.declared.orders.Start.TheVariants as starts
use Rattle.model_commands.specs.declared.carts.Asked.{Asked}
use Rattle.model_faults.specs.declared.fields.EntryFault.TheVariants as entry_faults
use Rattle.model_faults.specs.declared.fields.Field.TheVariants as fields
use Rattle.model_faults.specs.declared.fields.Problem.TheVariants as problems
use Rattle.web_fields.specs.declared.error.BodyFault.{BodyFault}
use Rattle.web_fields.specs.declared.error.BodyFault.TheVariants as faults
use Rattle.web_fields.specs.Reading.{◌>>=◌, fault, fault_renamed}
use Rattle.web_fields.specs.Modes.{present, required_value}
use Rattle.web_fields.specs.Kinds.{end, id}
use Rattle.web_fields.specs.Lists.{list, all_of, at_most, entry_object}
use Rattle.web_fields.specs.Lacking.{or_else, optional_id, optional_text, optional_loose_text, optional_money, optional_moment, texts_or_none}
use Rattle.web_bodies.specs.CartBodies.{cart_of}

-- how many positions of an order, and entries of a bulk call, are handed on: one more than there may be, which is enough
-- to tell that there are too many
abbrev pub enough : ℕ
enough = 501

-- what is asked for one position; its voucher is a code, and an empty one is a code that no voucher has
unfoldable pub asked_of : Data → Result Asked BodyFault
asked_of d = do
  i ← required_value fields.Item d
  item ← id fields.Item i
  variation ← optional_id fields.Variation d
  price ← optional_money fields.Price d
  voucher ← optional_loose_text fields.Voucher d
  Ok (record { item = item; variation = variation; price = price; voucher = voucher })

-- an entry of an order's positions; all its faults are faults of the list
abbrev pub position_entry : Data → Result Asked BodyFault
position_entry d = entry_object fields.Positions d >>= λ v. fault_renamed fields.Positions (asked_of v)

-- the first positions of a new order; the list has to be there, and may be empty, and a fault of any entry is the list's
abbrev pub positions_of : Data → Result (List Asked) BodyFault
positions_of d = do
  v ← required_value fields.Positions d
  ds ← list fields.Positions v
  at_most enough (all_of position_entry ds)

-- what an order starts as: n is pending, p is paid
abbrev pub start_named : List ℕ → Option Start
start_named word =
    if same_text word (codes "n") then Some starts.Pending
    else (if same_text word (codes "p") then Some starts.Paid else None)

-- what a word names, or the field's fault where it names neither
abbrev pub start_from : Option Start → Result Start BodyFault
start_from None = Err (fault fields.Status problems.Invalid)
start_from (Some s) = Ok s

-- what an order starts as: one of the words `n` and `p`
abbrev pub start : Data → Result Start BodyFault
start v = start_from (option_and_then start_named (as_str v))

-- what a new order starts as: pending, where it isn't said
abbrev pub start_of : Data → Result Start BodyFault
start_of d = present fields.Status d >>= or_else start starts.Pending

-- a new order; without an address it has none, and the carts that it names are consumed
unfoldable pub order_of : Data → Result NewOrder BodyFault
order_of d = do
  email ← optional_text fields.Email d
  from ← start_of d
  expires ← optional_moment fields.Expires d
  carts ← texts_or_none fields.ConsumeCarts d
  positions ← positions_of d
  Ok (record { email = email; start = from; expires = expires; consume_carts = carts; positions = positions })

-- the end to which an order is extended, which has to be there: an instant, or a day, which stands for its last second
abbrev pub end_of : Data → Result ℕ BodyFault
end_of d = required_value fields.Expires d >>= end fields.Expires

-- the cart position that an entry of a bulk call asks for, or what is wrong with it
abbrev pub entry_from : Result NewCart BodyFault → Entry
entry_from (Ok new) = entries.New new
entry_from (Err (faults.Field f)) = entries.Faulty (entry_faults.Field f)
entry_from (Err other) = entries.Faulty entry_faults.InvalidData

-- an entry of a bulk call, read as a request for one cart position
abbrev pub entry_said : Data → Entry
entry_said d = if is_some (as_object d) then entry_from (cart_of d) else entries.Faulty entry_faults.InvalidData

-- an entry of a bulk call may be anything, so its reading has no fault
abbrev pub bulk_entry : Data → Result Entry BodyFault
bulk_entry d = Ok (entry_said d)

-- the first entries of a bulk call: one for each value of the list, in its order
abbrev pub entries_of : Items → Result (List Entry) BodyFault
entries_of ds = at_most enough (all_of bulk_entry ds)
