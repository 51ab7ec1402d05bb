-- The statements that make a shop's tables, one behind the other, and the schema of each version: the tables of an older one are the first of this one's.
use Rattle.std.specs.Prelude.{ℕ, zero, suc, List, [], ◌∷◌, map}
use Rattle.sqlite_schema.specs.declared.schema.Schema.{Schema}
use Rattle.file_schema.specs.Blank.{blank_schema}
use Rattle.file_schema.specs.Tables.{schema_of, shop_text, items_text, variations_text, quotas_text, quota_items_text, quota_variations_text, vouchers_text, cart_positions_text, orders_text, order_positions_text, waiting_text, checkin_lists_text, list_items_text, checkins_text, quota_count_text, tokens_text, kept_text, kept_by_moment_text, quota_release_text, quota_exited_text, voucher_budget_text, voucher_spent_text, position_discount_text}

-- each statement, behind those that make what it refers to, and the schema that there is after it; one makes the index
abbrev pub steps : List (List ℕ × Schema)
steps =
    (shop_text, schema_of 1 0)
    ∷ (items_text, schema_of 2 0)
    ∷ (variations_text, schema_of 3 0)
    ∷ (quotas_text, schema_of 4 0)
    ∷ (quota_items_text, schema_of 5 1)
    ∷ (quota_variations_text, schema_of 6 2)
    ∷ (vouchers_text, schema_of 7 3)
    ∷ (cart_positions_text, schema_of 8 3)
    ∷ (orders_text, schema_of 9 3)
    ∷ (order_positions_text, schema_of 10 5)
    ∷ (waiting_text, schema_of 11 5)
    ∷ (checkin_lists_text, schema_of 12 5)
    ∷ (list_items_text, schema_of 13 6)
    ∷ (checkins_text, schema_of 14 7)
    ∷ (quota_count_text, schema_of 15 7)
    ∷ (tokens_text, schema_of 16 8)
    ∷ (kept_text, schema_of 17 9)
    ∷ (kept_by_moment_text, schema_of 17 10)
    ∷ (quota_release_text, schema_of 18 10)
    ∷ (quota_exited_text, schema_of 19 10)
    ∷ (voucher_budget_text, schema_of 20 10)
    ∷ (voucher_spent_text, schema_of 21 10)
    ∷ (position_discount_text, schema_of 22 10) ∷ []

-- the texts of these statements, in order
abbrev pub statement_texts : List (List ℕ)
statement_texts = map (λ it. it.0) steps

-- the schema after so many of these, from a first one on
abbrev pub stage : ℕ → Schema → List (List ℕ × Schema) → Schema
stage zero first all = first
stage (suc i) first [] = first
stage (suc i) first (it ∷ more) = stage i it.1 more

-- the schema after the first so many statements
abbrev pub schema_after : ℕ → Schema
schema_after count = stage count blank_schema steps

-- how many statements make the tables of a version; of 0 there is none
abbrev pub statements_of : ℕ → ℕ
statements_of zero = 0
statements_of (suc zero) = 18
statements_of (suc (suc zero)) = 20
statements_of (suc (suc (suc version))) = 23

-- the tables and indexes of a version
abbrev pub schema_of_version : ℕ → Schema
schema_of_version version = schema_after (statements_of version)
