-- The body of a cart position, field by field in the order of their tests.
use Rattle.std.specs.Prelude.{Result, Ok}
use Rattle.serde_json.specs.Data.{Data}
use Rattle.model_commands.specs.declared.carts.NewCart.{NewCart}
use Rattle.model_faults.specs.declared.fields.Field.TheVariants as fields
use Rattle.web_fields.specs.declared.error.BodyFault.{BodyFault}
use Rattle.web_fields.specs.Reading.{◌>>=◌}
use Rattle.web_fields.specs.Modes.{required_value}
use Rattle.web_fields.specs.Kinds.{id}
use Rattle.web_fields.specs.Lacking.{optional_id, optional_text, optional_loose_text, optional_money, optional_moment}

-- a new cart position; its voucher is a code, and an empty one is a code that no voucher has
unfoldable pub cart_of : Data → Result NewCart BodyFault
cart_of d = do
  i ← required_value fields.Item d
  item ← id fields.Item i
  variation ← optional_id fields.Variation d
  price ← optional_money fields.Price d
  cart ← optional_text fields.CartId d
  expires ← optional_moment fields.Expires d
  voucher ← optional_loose_text fields.Voucher d
  Ok (record { asked = record { item = item; variation = variation; price = price; voucher = voucher }; cart_id = cart; expires = expires })
