-- The tables of a shop, each said once.
use Rattle.std.specs.Prelude.{codes, [], ◌∷◌}
use Rattle.file_schema.specs.Described.{Described, table_by_id, table_of_links, number, text, flag, refers, optional, unique}

-- the items of quotas: a quota has an item at most once
abbrev pub quota_items : Described
quota_items = table_of_links (codes "quota_items") 4 1 (refers (codes "quota_id") (codes "quotas") ∷ refers (codes "item_id") (codes "items") ∷ [])

-- vouchers, each with how often it is redeemed: no two have one code, and each may name an item, a variation and a quota
abbrev pub vouchers : Described
vouchers =
    table_by_id (codes "vouchers") 8 1 (codes "id")
    (unique (text (codes "code")) ∷ number (codes "max_usages") ∷ optional (number (codes "valid_until")) ∷ flag (codes "block_quota") ∷ flag (codes "allow_ignore_quota") ∷ text (codes "price_mode") ∷ optional (number (codes "amount"))
    ∷ optional (refers (codes "item_id") (codes "items")) ∷ optional (refers (codes "variation_id") (codes "variations")) ∷ optional (refers (codes "quota_id") (codes "quotas")) ∷ text (codes "tag") ∷ text (codes "comment") ∷ number (codes "redeemed") ∷ [])
    []

-- the tickets of orders: no two have one secret, nor one order and one number in it
abbrev pub order_positions : Described
order_positions =
    table_by_id (codes "order_positions") 12 1 (codes "id")
    (refers (codes "order_id") (codes "orders") ∷ number (codes "positionid") ∷ refers (codes "item_id") (codes "items") ∷ optional (refers (codes "variation_id") (codes "variations")) ∷ number (codes "price") ∷ optional (refers (codes "voucher_id") (codes "vouchers")) ∷ unique (text (codes "secret")) ∷ [])
    ((2 ∷ 3 ∷ []) ∷ [])
