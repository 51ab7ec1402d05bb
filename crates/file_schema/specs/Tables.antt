-- The schema of the file: the text of each table, and the record that its text defines.
use Rattle.std.specs.Prelude.{true, false, [], ◌∷◌, None, Some, codes, List, ℕ, pos, map, Bool, take}
use Rattle.sqlite.specs.Collation.TheVariants.{Binary}
use Rattle.sqlite_value.specs.declared.value.Value.TheVariants.{Null, Int}
use Rattle.sqlite_value.specs.Keys.{plain}
use Rattle.sqlite_sql.specs.Term.{Term, lit, col, op2}
use Rattle.sqlite_sql.specs.declared.ops.BinaryOp.TheVariants.{Compare, Or}
use Rattle.sqlite_sql.specs.declared.ops.CompareOp.TheVariants.{Eq}
use Rattle.sqlite_schema.specs.declared.schema.Column.{Column}
use Rattle.sqlite_schema.specs.declared.schema.Table.{Table}
use Rattle.sqlite_schema.specs.declared.schema.Index.{Index}
use Rattle.sqlite_schema.specs.declared.schema.Schema.{Schema}
use Rattle.sqlite_schema.specs.declared.schema.Reference.{Reference}
use Rattle.sqlite_schema.specs.declared.schema.Action.TheVariants.{Restrict, NoAction}
use Rattle.sqlite_schema.specs.declared.schema.Kind.{Kind}
use Rattle.sqlite_schema.specs.declared.schema.Kind.TheVariants.{Integer, Text, Blob}
use Rattle.file_schema.specs.Described.{create_text, table_of}
use Rattle.file_schema.specs.Descriptions.{quota_items, vouchers, order_positions}

-- ---- columns of STRICT tables

-- a column of this kind and name, NOT NULL where it is needed
abbrev column : Kind → Bool → List ℕ → Column
column kind needed name = record { name = name; kind = kind; is_strict = true; not_null = needed; default = Null; collation = Binary }

-- the INTEGER PRIMARY KEY
abbrev id : List ℕ → Column
id = column Integer false

-- INTEGER NOT NULL
abbrev number : List ℕ → Column
number = column Integer true

-- INTEGER
abbrev number_or_null : List ℕ → Column
number_or_null = column Integer false

-- TEXT NOT NULL
abbrev text : List ℕ → Column
text = column Text true

-- TEXT
abbrev text_or_null : List ℕ → Column
text_or_null = column Text false

-- BLOB NOT NULL
abbrev blob : List ℕ → Column
blob = column Blob true

-- ---- rules of a table; a column is named by its place from 1, the INTEGER PRIMARY KEY is 0

-- the column at this place is this number
abbrev is_number : ℕ → ℕ → Term
is_number at n = op2 (Compare Eq Binary) (col 1 at) (lit (Int (pos n)))

-- CHECK (.. IN (0, 1))
abbrev is_truth : ℕ → Term
is_truth at = op2 Or (is_number at 0) (is_number at 1)

-- REFERENCES .. ON DELETE RESTRICT
abbrev refers : ℕ → List ℕ → Reference
refers at parent = record { columns = at ∷ []; parent = parent; parent_columns = []; on_delete = Restrict; on_update = NoAction; is_deferred = false }

-- a table with an INTEGER PRIMARY KEY first
abbrev keyed_table : List ℕ → ℕ → List Column → List (List ℕ) → List Term → List Reference → Table
keyed_table name tree columns uniques checks references = record {
  name = name;
  tree = tree;
  columns = columns;
  key = Some 0;
  primary = 0 ∷ [];
  uniques = uniques;
  orders = map (λ _. plain) uniques;
  checks = checks;
  references = references;
  computed = [];
  stamps = record { places = []; terms = []; formats = [] };
  is_counted = false;
}

-- a table whose primary key is made of these columns
abbrev paired_table : List ℕ → ℕ → List Column → List ℕ → List Reference → Table
paired_table name tree columns primary references = record {
  name = name;
  tree = tree;
  columns = columns;
  key = None;
  primary = primary;
  uniques = primary ∷ [];
  orders = plain ∷ [];
  checks = [];
  references = references;
  computed = [];
  stamps = record { places = []; terms = []; formats = [] };
  is_counted = false;
}

-- ---- the tables

-- the shop itself: one row
abbrev pub shop_text : List ℕ
shop_text = codes "CREATE TABLE shop (id INTEGER PRIMARY KEY CHECK (id = 1), version INTEGER NOT NULL, organizer TEXT NOT NULL, event TEXT NOT NULL, moment INTEGER NOT NULL, next_item INTEGER NOT NULL, next_variation INTEGER NOT NULL, next_quota INTEGER NOT NULL, next_voucher INTEGER NOT NULL, next_cart INTEGER NOT NULL, next_order INTEGER NOT NULL, next_position INTEGER NOT NULL, next_waiting INTEGER NOT NULL, next_list INTEGER NOT NULL, next_checkin INTEGER NOT NULL, next_token INTEGER NOT NULL) STRICT"

-- what `shop_text` defines: a row has the id 1, and there is no other
abbrev pub shop_table : Table
shop_table =
    keyed_table (codes "shop") 0
    (id (codes "id") ∷ number (codes "version") ∷ text (codes "organizer") ∷ text (codes "event") ∷ number (codes "moment") ∷ number (codes "next_item") ∷ number (codes "next_variation") ∷ number (codes "next_quota") ∷ number (codes "next_voucher") ∷ number (codes "next_cart") ∷ number (codes "next_order") ∷ number (codes "next_position") ∷ number (codes "next_waiting") ∷ number (codes "next_list") ∷ number (codes "next_checkin") ∷ number (codes "next_token") ∷ [])
    ([]) (is_number 0 1 ∷ [])
    ([])

-- what is sold
abbrev pub items_text : List ℕ
items_text = codes "CREATE TABLE items (id INTEGER PRIMARY KEY, name TEXT NOT NULL, default_price INTEGER NOT NULL, active INTEGER NOT NULL CHECK (active IN (0, 1)), varied INTEGER NOT NULL CHECK (varied IN (0, 1))) STRICT"

-- what `items_text` defines: an item is active or not, and varied or not
abbrev pub items_table : Table
items_table =
    keyed_table (codes "items") 1
    (id (codes "id") ∷ text (codes "name") ∷ number (codes "default_price") ∷ number (codes "active") ∷ number (codes "varied") ∷ [])
    ([]) (is_truth 4 ∷ is_truth 5 ∷ [])
    ([])

-- kinds of items
abbrev pub variations_text : List ℕ
variations_text = codes "CREATE TABLE variations (id INTEGER PRIMARY KEY, item_id INTEGER NOT NULL REFERENCES items ON DELETE RESTRICT, name TEXT NOT NULL, default_price INTEGER, active INTEGER NOT NULL CHECK (active IN (0, 1))) STRICT"

-- what `variations_text` defines: a variation names its item
abbrev pub variations_table : Table
variations_table =
    keyed_table (codes "variations") 2
    (id (codes "id") ∷ number (codes "item_id") ∷ text (codes "name") ∷ number_or_null (codes "default_price") ∷ number (codes "active") ∷ [])
    ([]) (is_truth 5 ∷ [])
    (refers 2 (codes "items") ∷ [])

-- quotas, without their members
abbrev pub quotas_text : List ℕ
quotas_text = codes "CREATE TABLE quotas (id INTEGER PRIMARY KEY, name TEXT NOT NULL, size INTEGER) STRICT"

-- what `quotas_text` defines: a quota without size is unlimited
abbrev pub quotas_table : Table
quotas_table =
    keyed_table (codes "quotas") 3
    (id (codes "id") ∷ text (codes "name") ∷ number_or_null (codes "size") ∷ [])
    ([]) ([])
    ([])

-- the items of quotas
abbrev pub quota_items_text : List ℕ
quota_items_text = create_text quota_items

-- what `quota_items_text` defines: a quota has an item at most once
abbrev pub quota_items_table : Table
quota_items_table = table_of quota_items

-- the variations of quotas
abbrev pub quota_variations_text : List ℕ
quota_variations_text = codes "CREATE TABLE quota_variations (quota_id INTEGER NOT NULL REFERENCES quotas ON DELETE RESTRICT, variation_id INTEGER NOT NULL REFERENCES variations ON DELETE RESTRICT, PRIMARY KEY (quota_id, variation_id)) STRICT"

-- what `quota_variations_text` defines: a quota has a variation at most once
abbrev pub quota_variations_table : Table
quota_variations_table =
    paired_table (codes "quota_variations") 6
    (number (codes "quota_id") ∷ number (codes "variation_id") ∷ [])
    (1 ∷ 2 ∷ [])
    (refers 1 (codes "quotas") ∷ refers 2 (codes "variations") ∷ [])

-- vouchers, each with how often it is redeemed
abbrev pub vouchers_text : List ℕ
vouchers_text = create_text vouchers

-- what `vouchers_text` defines: no two vouchers have one code, and each may name an item, a variation and a quota
abbrev pub vouchers_table : Table
vouchers_table = table_of vouchers

-- places that are held in carts
abbrev pub cart_positions_text : List ℕ
cart_positions_text = codes "CREATE TABLE cart_positions (id INTEGER PRIMARY KEY, cart_id TEXT NOT NULL, item_id INTEGER NOT NULL REFERENCES items ON DELETE RESTRICT, variation_id INTEGER REFERENCES variations ON DELETE RESTRICT, price INTEGER NOT NULL, made_at INTEGER NOT NULL, expires INTEGER NOT NULL, voucher_id INTEGER REFERENCES vouchers ON DELETE RESTRICT) STRICT"

-- what `cart_positions_text` defines: a cart position names its item, and maybe a variation and a voucher
abbrev pub cart_positions_table : Table
cart_positions_table =
    keyed_table (codes "cart_positions") 10
    (id (codes "id") ∷ text (codes "cart_id") ∷ number (codes "item_id") ∷ number_or_null (codes "variation_id") ∷ number (codes "price") ∷ number (codes "made_at") ∷ number (codes "expires") ∷ number_or_null (codes "voucher_id") ∷ [])
    ([]) ([])
    (refers 3 (codes "items") ∷ refers 4 (codes "variations") ∷ refers 8 (codes "vouchers") ∷ [])

-- orders, by number
abbrev pub orders_text : List ℕ
orders_text = codes "CREATE TABLE orders (id INTEGER PRIMARY KEY, email TEXT, status TEXT NOT NULL, made_at INTEGER NOT NULL, expires INTEGER NOT NULL) STRICT"

-- what `orders_text` defines: an order names no other row
abbrev pub orders_table : Table
orders_table =
    keyed_table (codes "orders") 11
    (id (codes "id") ∷ text_or_null (codes "email") ∷ text (codes "status") ∷ number (codes "made_at") ∷ number (codes "expires") ∷ [])
    ([]) ([])
    ([])

-- the tickets of orders
abbrev pub order_positions_text : List ℕ
order_positions_text = create_text order_positions

-- what `order_positions_text` defines: no two tickets have one secret, nor one order and one number in it
abbrev pub order_positions_table : Table
order_positions_table = table_of order_positions

-- the waiting list
abbrev pub waiting_text : List ℕ
waiting_text = codes "CREATE TABLE waiting (id INTEGER PRIMARY KEY, email TEXT NOT NULL, item_id INTEGER NOT NULL REFERENCES items ON DELETE RESTRICT, variation_id INTEGER REFERENCES variations ON DELETE RESTRICT, priority INTEGER NOT NULL, created INTEGER NOT NULL, voucher_id INTEGER REFERENCES vouchers ON DELETE RESTRICT) STRICT"

-- what `waiting_text` defines: a waiting entry names its item, and maybe a variation and the voucher that was sent to it
abbrev pub waiting_table : Table
waiting_table =
    keyed_table (codes "waiting") 15
    (id (codes "id") ∷ text (codes "email") ∷ number (codes "item_id") ∷ number_or_null (codes "variation_id") ∷ number (codes "priority") ∷ number (codes "created") ∷ number_or_null (codes "voucher_id") ∷ [])
    ([]) ([])
    (refers 3 (codes "items") ∷ refers 4 (codes "variations") ∷ refers 7 (codes "vouchers") ∷ [])

-- lists by which doors check tickets in, without their items
abbrev pub checkin_lists_text : List ℕ
checkin_lists_text = codes "CREATE TABLE checkin_lists (id INTEGER PRIMARY KEY, name TEXT NOT NULL, all_products INTEGER NOT NULL CHECK (all_products IN (0, 1)), include_pending INTEGER NOT NULL CHECK (include_pending IN (0, 1)), multiple INTEGER NOT NULL CHECK (multiple IN (0, 1)), after_exit INTEGER NOT NULL CHECK (after_exit IN (0, 1))) STRICT"

-- what `checkin_lists_text` defines: each of the four settings of a list is on or off
abbrev pub checkin_lists_table : Table
checkin_lists_table =
    keyed_table (codes "checkin_lists") 16
    (id (codes "id") ∷ text (codes "name") ∷ number (codes "all_products") ∷ number (codes "include_pending") ∷ number (codes "multiple") ∷ number (codes "after_exit") ∷ [])
    ([]) (is_truth 3 ∷ is_truth 4 ∷ is_truth 5 ∷ is_truth 6 ∷ [])
    ([])

-- the items of check-in lists
abbrev pub list_items_text : List ℕ
list_items_text = codes "CREATE TABLE list_items (list_id INTEGER NOT NULL REFERENCES checkin_lists ON DELETE RESTRICT, item_id INTEGER NOT NULL REFERENCES items ON DELETE RESTRICT, PRIMARY KEY (list_id, item_id)) STRICT"

-- what `list_items_text` defines: a list has an item at most once
abbrev pub list_items_table : Table
list_items_table =
    paired_table (codes "list_items") 17
    (number (codes "list_id") ∷ number (codes "item_id") ∷ [])
    (1 ∷ 2 ∷ [])
    (refers 1 (codes "checkin_lists") ∷ refers 2 (codes "items") ∷ [])

-- who came in and went out
abbrev pub checkins_text : List ℕ
checkins_text = codes "CREATE TABLE checkins (id INTEGER PRIMARY KEY, list_id INTEGER NOT NULL REFERENCES checkin_lists ON DELETE RESTRICT, position_id INTEGER NOT NULL REFERENCES order_positions ON DELETE RESTRICT, kind TEXT NOT NULL, at INTEGER NOT NULL, nonce TEXT, UNIQUE (list_id, position_id, nonce)) STRICT"

-- what `checkins_text` defines: a list has a nonce at most once for a ticket
abbrev pub checkins_table : Table
checkins_table =
    keyed_table (codes "checkins") 19
    (id (codes "id") ∷ number (codes "list_id") ∷ number (codes "position_id") ∷ text (codes "kind") ∷ number (codes "at") ∷ text_or_null (codes "nonce") ∷ [])
    ((2 ∷ 3 ∷ 6 ∷ []) ∷ []) ([])
    (refers 2 (codes "checkin_lists") ∷ refers 3 (codes "order_positions") ∷ [])

-- what uses each quota
abbrev pub quota_count_text : List ℕ
quota_count_text = codes "CREATE TABLE quota_count (quota_id INTEGER PRIMARY KEY REFERENCES quotas ON DELETE RESTRICT, paid INTEGER NOT NULL, pending INTEGER NOT NULL, blocked INTEGER NOT NULL, carts INTEGER NOT NULL, waiting INTEGER NOT NULL) STRICT"

-- what `quota_count_text` defines: one row for a quota, with its id
abbrev pub quota_count_table : Table
quota_count_table =
    keyed_table (codes "quota_count") 21
    (id (codes "quota_id") ∷ number (codes "paid") ∷ number (codes "pending") ∷ number (codes "blocked") ∷ number (codes "carts") ∷ number (codes "waiting") ∷ [])
    ([]) ([])
    (refers 0 (codes "quotas") ∷ [])

-- the digests of tokens
abbrev pub tokens_text : List ℕ
tokens_text = codes "CREATE TABLE tokens (id INTEGER PRIMARY KEY, digest BLOB NOT NULL UNIQUE) STRICT"

-- what `tokens_text` defines: no two tokens have one digest
abbrev pub tokens_table : Table
tokens_table =
    keyed_table (codes "tokens") 22
    (id (codes "id") ∷ blob (codes "digest") ∷ [])
    ((2 ∷ []) ∷ []) ([])
    ([])

-- kept answers
abbrev pub kept_text : List ℕ
kept_text = codes "CREATE TABLE kept (token_id INTEGER NOT NULL REFERENCES tokens ON DELETE RESTRICT, request_key BLOB NOT NULL, first_moment INTEGER NOT NULL, status INTEGER NOT NULL, allow TEXT NOT NULL, body BLOB NOT NULL, PRIMARY KEY (token_id, request_key)) STRICT"

-- what `kept_text` defines: a token has a key at most once
abbrev pub kept_table : Table
kept_table =
    paired_table (codes "kept") 24
    (number (codes "token_id") ∷ blob (codes "request_key") ∷ number (codes "first_moment") ∷ number (codes "status") ∷ text (codes "allow") ∷ blob (codes "body") ∷ [])
    (1 ∷ 2 ∷ [])
    (refers 1 (codes "tokens") ∷ [])

-- the quotas that release the places of tickets that went out
abbrev pub quota_release_text : List ℕ
quota_release_text = codes "CREATE TABLE quota_release (quota_id INTEGER PRIMARY KEY REFERENCES quotas ON DELETE RESTRICT) STRICT"

-- what `quota_release_text` defines: a row is no more than the id of its quota
abbrev pub quota_release_table : Table
quota_release_table =
    keyed_table (codes "quota_release") 27
    (id (codes "quota_id") ∷ [])
    ([]) ([])
    (refers 0 (codes "quotas") ∷ [])

-- how many tickets of each quota are out
abbrev pub quota_exited_text : List ℕ
quota_exited_text = codes "CREATE TABLE quota_exited (quota_id INTEGER PRIMARY KEY REFERENCES quotas ON DELETE RESTRICT, exited INTEGER NOT NULL) STRICT"

-- what `quota_exited_text` defines: one row for a quota, with its id
abbrev pub quota_exited_table : Table
quota_exited_table =
    keyed_table (codes "quota_exited") 28
    (id (codes "quota_id") ∷ number (codes "exited") ∷ [])
    ([]) ([])
    (refers 0 (codes "quotas") ∷ [])

-- the vouchers that have a budget
abbrev pub voucher_budget_text : List ℕ
voucher_budget_text = codes "CREATE TABLE voucher_budget (voucher_id INTEGER PRIMARY KEY REFERENCES vouchers ON DELETE RESTRICT, budget INTEGER NOT NULL) STRICT"

-- what `voucher_budget_text` defines: one row for a voucher, with its id
abbrev pub voucher_budget_table : Table
voucher_budget_table =
    keyed_table (codes "voucher_budget") 29
    (id (codes "voucher_id") ∷ number (codes "budget") ∷ [])
    ([]) ([])
    (refers 0 (codes "vouchers") ∷ [])

-- how much of each voucher is spent
abbrev pub voucher_spent_text : List ℕ
voucher_spent_text = codes "CREATE TABLE voucher_spent (voucher_id INTEGER PRIMARY KEY REFERENCES vouchers ON DELETE RESTRICT, spent INTEGER NOT NULL) STRICT"

-- what `voucher_spent_text` defines: one row for a voucher, with its id
abbrev pub voucher_spent_table : Table
voucher_spent_table =
    keyed_table (codes "voucher_spent") 30
    (id (codes "voucher_id") ∷ number (codes "spent") ∷ [])
    ([]) ([])
    (refers 0 (codes "vouchers") ∷ [])

-- what was taken off the price of a ticket
abbrev pub position_discount_text : List ℕ
position_discount_text = codes "CREATE TABLE position_discount (position_id INTEGER PRIMARY KEY REFERENCES order_positions ON DELETE RESTRICT, discount INTEGER NOT NULL) STRICT"

-- what `position_discount_text` defines: one row for a ticket, with its id
abbrev pub position_discount_table : Table
position_discount_table =
    keyed_table (codes "position_discount") 31
    (id (codes "position_id") ∷ number (codes "discount") ∷ [])
    ([]) ([])
    (refers 0 (codes "order_positions") ∷ [])

-- ---- the whole

-- a table stands behind those to which it refers
abbrev pub all_tables : List Table
all_tables =
    shop_table
    ∷ items_table
    ∷ variations_table
    ∷ quotas_table
    ∷ quota_items_table
    ∷ quota_variations_table
    ∷ vouchers_table
    ∷ cart_positions_table
    ∷ orders_table
    ∷ order_positions_table
    ∷ waiting_table
    ∷ checkin_lists_table
    ∷ list_items_table
    ∷ checkins_table
    ∷ quota_count_table
    ∷ tokens_table
    ∷ kept_table
    ∷ quota_release_table
    ∷ quota_exited_table
    ∷ voucher_budget_table
    ∷ voucher_spent_table
    ∷ position_discount_table ∷ []

-- the index of what is UNIQUE, which has a tree of its own
abbrev index : List ℕ → ℕ → ℕ → List ℕ → Index
index name tree table columns = record { name = name; tree = tree; table = table; columns = columns; order = plain; is_unique = true }

-- kept answers by their moment, so that those which are past are found without a walk over all
abbrev pub kept_by_moment_text : List ℕ
kept_by_moment_text = codes "CREATE INDEX kept_by_moment ON kept (first_moment)"

-- what `kept_by_moment_text` defines: the table `kept` by its third column, where one moment may be of many rows
abbrev pub kept_by_moment : Index
kept_by_moment = record { name = codes "kept_by_moment"; tree = 26; table = 24; columns = 3 ∷ []; order = plain; is_unique = false }

-- the indexes in the order of their trees: one for each thing that is UNIQUE, and that of kept answers
abbrev pub all_indexes : List Index
all_indexes =
    index (codes "sqlite_autoindex_quota_items_1") 5 4 (1 ∷ 2 ∷ [])
    ∷ index (codes "sqlite_autoindex_quota_variations_1") 7 6 (1 ∷ 2 ∷ [])
    ∷ index (codes "sqlite_autoindex_vouchers_1") 9 8 (2 ∷ [])
    ∷ index (codes "sqlite_autoindex_order_positions_1") 13 12 (8 ∷ [])
    ∷ index (codes "sqlite_autoindex_order_positions_2") 14 12 (2 ∷ 3 ∷ [])
    ∷ index (codes "sqlite_autoindex_list_items_1") 18 17 (1 ∷ 2 ∷ [])
    ∷ index (codes "sqlite_autoindex_checkins_1") 20 19 (2 ∷ 3 ∷ 6 ∷ [])
    ∷ index (codes "sqlite_autoindex_tokens_1") 23 22 (2 ∷ [])
    ∷ index (codes "sqlite_autoindex_kept_1") 25 24 (1 ∷ 2 ∷ [])
    ∷ kept_by_moment ∷ []

-- the first tables, with the indexes of them
abbrev pub schema_of : ℕ → ℕ → Schema
schema_of tables indexes = record { tables = take tables all_tables; indexes = take indexes all_indexes; views = [] }

-- the version of the tables that this program reads and writes
abbrev pub this_version : ℕ
this_version = 3

-- all tables and all indexes, and no views
abbrev pub schema : Schema
schema = record { tables = all_tables; indexes = all_indexes; views = [] }
