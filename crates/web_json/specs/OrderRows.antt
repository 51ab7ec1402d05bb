-- Orders and their positions as JSON, each with its members in byte order.
use Rattle.std.specs.Prelude.{ℕ, List, map, sum_by, codes}
use Rattle.serde_json.specs.Data.{Data, string, object, Members, member, no_members}
use Rattle.base_values.specs.Codes.{order_code}
use Rattle.model_rows.specs.declared.rows.Order.{Order}
use Rattle.model_rows.specs.declared.rows.OrderPos.{OrderPos}
use Rattle.model_rows.specs.Letters.{status_letter}
use Rattle.web_json.specs.Values.{count, count_or_null, money, moment, text_or_null, list}

-- what the positions of an order cost together, in cents
abbrev pub order_total : List OrderPos → ℕ
order_total positions = sum_by (λ p. p.price) positions

-- the members of a position, with the ids of its item and of its variation, and of its voucher, and with the code of its order; a
-- number beyond that of the last code is written by its last five places in base 28
abbrev pub position_members : OrderPos → Members
position_members position =
    member (codes "id") (count position.id)
    (member (codes "item") (count position.product.item)
    (member (codes "order") (string (order_code position.order))
    (member (codes "positionid") (count position.positionid)
    (member (codes "price") (money position.price)
    (member (codes "secret") (string position.secret)
    (member (codes "variation") (count_or_null position.product.variation)
    (member (codes "voucher") (count_or_null position.voucher)
    no_members)))))))

-- an order position as an object, as its order has it in its list
abbrev pub position_body : OrderPos → Data
position_body position = object (position_members position)

-- the members of an order before its positions, and the rest; it is dated at the moment that it was made
abbrev pub order_members : Order → Members → Members
order_members order rest =
    member (codes "code") (string (order_code order.id))
    (member (codes "datetime") (moment order.made_at)
    (member (codes "email") (text_or_null order.email)
    (member (codes "expires") (moment order.expires)
    rest)))

-- the members of an order behind its positions: its status, and what they cost together
abbrev pub last_members : Order → List OrderPos → Members
last_members order positions =
    member (codes "status") (string (status_letter order.status))
    (member (codes "total") (money (order_total positions))
    no_members)

-- an order with its positions and their total
abbrev pub order_body : Order → List OrderPos → Data
order_body order positions = object (order_members order (member (codes "positions") (list (map position_body positions)) (last_members order positions)))
