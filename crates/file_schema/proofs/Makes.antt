-- What each CREATE TABLE makes beside the tables that stand, and the one CREATE INDEX.
use Rattle.std.proofs.Common.{◌≡◌, ◌<◌, ◌≤◌, ◌++◌, ℕ, zero, suc, List, [], ◌∷◌, length, map, drop, get_or, false, Ok, refl, subst, arith}
use Rattle.sqlite_tied.specs.Compute.{everything}
use Rattle.sqlite_schema.specs.declared.schema.Schema.{Schema}
use Rattle.sqlite_schema.specs.declared.schema.Table.{Table}
use Rattle.sqlite_schema.specs.declared.command.Command.TheVariants.{CreateTable, CreateIndex}
use Rattle.sqlite.specs.Compile.{table_defined_by, index_defined_by}
use Rattle.sqlite.specs.Change.{created, indexed, next_tree}
use Rattle.sqlite.specs.Does.{lacks_sequence}
use Rattle.sqlite.specs.Listing.{understood}
use Rattle.sqlite.specs.State.{State, Executes, HasCleanDisk, Survives}
use Rattle.sqlite.proofs.Callers.{IsPlain, command_of, statement_of}
use Rattle.file_schema.specs.Tables.{schema, schema_of, shop_text, shop_table, items_text, items_table, variations_text, variations_table, quotas_text, quotas_table, quota_items_text, quota_items_table, quota_variations_text, quota_variations_table, vouchers_text, vouchers_table, cart_positions_text, cart_positions_table}
use Rattle.file_schema.specs.Tables.{orders_text, orders_table, order_positions_text, order_positions_table, waiting_text, waiting_table, checkin_lists_text, checkin_lists_table, list_items_text, list_items_table, checkins_text, checkins_table, quota_count_text, quota_count_table, tokens_text, tokens_table, kept_text, kept_table, kept_by_moment}
use Rattle.file_schema.specs.Tables.{kept_by_moment_text, quota_release_text, quota_release_table, quota_exited_text, quota_exited_table, voucher_budget_text, voucher_budget_table, voucher_spent_text, voucher_spent_table, position_discount_text, position_discount_table}
use Rattle.file_schema.specs.Blank.{blank_schema}
use Rattle.file_schema.specs.Versions.{steps, stage, statement_texts, schema_after}
use Rattle.file_schema.specs.Grown.{IsInsideOver}
use Rattle.file_schema.proofs.Grown.{GrowsBy}
use Rattle.file_schema.proofs.Creating.{creates, indexes}

-- over the first schema the statement makes the next one, beside the rows that stand
abbrev pub Makes : Schema → List ℕ → Schema → Type 1
Makes first sql next = (old new : State) → IsInsideOver first old → (count : ℕ) → Executes sql [] old new (Ok count) → (more : List Table) × GrowsBy more first next old new

-- over a schema the text defines the table
abbrev IsCreate : Schema → List ℕ → Table → Type 0
IsCreate before sql table = (command_of (understood before sql) ≡ CreateTable) × (statement_of sql (understood before sql) ≡ sql) × (table_defined_by sql ≡ Ok (record table { tree = 0 })) × IsPlain (understood before sql)

-- CREATE TABLE makes one table more, with no row
makes_table : (first next : Schema) (sql : List ℕ) (table : Table) → IsCreate first sql table → created first (record table { tree = 0 }) ≡ next → lacks_sequence next ≡ false → next.tables ≡ first.tables ++ table ∷ [] → next_tree first ≡ table.tree
    → Makes first sql next
makes_table first next sql table is makes counted tables tree old new at count h =
    let it = creates first next sql (record table { tree = 0 }) is.0 is.1 is.2 is.3 makes counted old new at.known at.inside count h in (
      table ∷ [],
      record {
        tables = tables;
        known = it.0;
        inside = it.3;
        kept = it.2;
        empty = (subst (λ n. new.now.trees n ≡ []) tree it.1, tt);
        listed = it.5;
      },
    )

pub before : (old new : State) → Survives old new (λ _. ⊥) → HasCleanDisk new → HasCleanDisk old
before old new s clean = omega (arith, s.clean)

shop_is : IsCreate (schema_of 0 0) shop_text shop_table
unfolding understood everything
shop_is = (refl, refl, refl, (refl, refl))

shop_next : created (schema_of 0 0) (record shop_table { tree = 0 }) ≡ (schema_of 1 0)
unfolding everything
shop_next = refl

makes_shop : Makes (schema_of 0 0) shop_text (schema_of 1 0)
makes_shop = makes_table (schema_of 0 0) (schema_of 1 0) shop_text shop_table shop_is shop_next refl refl refl

items_is : IsCreate (schema_of 1 0) items_text items_table
unfolding understood everything
items_is = (refl, refl, refl, (refl, refl))

items_next : created (schema_of 1 0) (record items_table { tree = 0 }) ≡ (schema_of 2 0)
unfolding everything
items_next = refl

makes_items : Makes (schema_of 1 0) items_text (schema_of 2 0)
makes_items = makes_table (schema_of 1 0) (schema_of 2 0) items_text items_table items_is items_next refl refl refl

variations_is : IsCreate (schema_of 2 0) variations_text variations_table
unfolding understood everything
variations_is = (refl, refl, refl, (refl, refl))

variations_next : created (schema_of 2 0) (record variations_table { tree = 0 }) ≡ (schema_of 3 0)
unfolding everything
variations_next = refl

makes_variations : Makes (schema_of 2 0) variations_text (schema_of 3 0)
makes_variations = makes_table (schema_of 2 0) (schema_of 3 0) variations_text variations_table variations_is variations_next refl refl refl

quotas_is : IsCreate (schema_of 3 0) quotas_text quotas_table
unfolding understood everything
quotas_is = (refl, refl, refl, (refl, refl))

quotas_next : created (schema_of 3 0) (record quotas_table { tree = 0 }) ≡ (schema_of 4 0)
unfolding everything
quotas_next = refl

makes_quotas : Makes (schema_of 3 0) quotas_text (schema_of 4 0)
makes_quotas = makes_table (schema_of 3 0) (schema_of 4 0) quotas_text quotas_table quotas_is quotas_next refl refl refl

quota_items_is : IsCreate (schema_of 4 0) quota_items_text quota_items_table
unfolding understood everything
quota_items_is = (refl, refl, refl, (refl, refl))

quota_items_next : created (schema_of 4 0) (record quota_items_table { tree = 0 }) ≡ (schema_of 5 1)
unfolding everything
quota_items_next = refl

makes_quota_items : Makes (schema_of 4 0) quota_items_text (schema_of 5 1)
makes_quota_items = makes_table (schema_of 4 0) (schema_of 5 1) quota_items_text quota_items_table quota_items_is quota_items_next refl refl refl

quota_variations_is : IsCreate (schema_of 5 1) quota_variations_text quota_variations_table
unfolding understood everything
quota_variations_is = (refl, refl, refl, (refl, refl))

quota_variations_next : created (schema_of 5 1) (record quota_variations_table { tree = 0 }) ≡ (schema_of 6 2)
unfolding everything
quota_variations_next = refl

makes_quota_variations : Makes (schema_of 5 1) quota_variations_text (schema_of 6 2)
makes_quota_variations = makes_table (schema_of 5 1) (schema_of 6 2) quota_variations_text quota_variations_table quota_variations_is quota_variations_next refl refl refl

vouchers_is : IsCreate (schema_of 6 2) vouchers_text vouchers_table
unfolding understood everything
vouchers_is = (refl, refl, refl, (refl, refl))

vouchers_next : created (schema_of 6 2) (record vouchers_table { tree = 0 }) ≡ (schema_of 7 3)
unfolding everything
vouchers_next = refl

makes_vouchers : Makes (schema_of 6 2) vouchers_text (schema_of 7 3)
makes_vouchers = makes_table (schema_of 6 2) (schema_of 7 3) vouchers_text vouchers_table vouchers_is vouchers_next refl refl refl

cart_positions_is : IsCreate (schema_of 7 3) cart_positions_text cart_positions_table
unfolding understood everything
cart_positions_is = (refl, refl, refl, (refl, refl))

cart_positions_next : created (schema_of 7 3) (record cart_positions_table { tree = 0 }) ≡ (schema_of 8 3)
unfolding everything
cart_positions_next = refl

makes_cart_positions : Makes (schema_of 7 3) cart_positions_text (schema_of 8 3)
makes_cart_positions = makes_table (schema_of 7 3) (schema_of 8 3) cart_positions_text cart_positions_table cart_positions_is cart_positions_next refl refl refl

orders_is : IsCreate (schema_of 8 3) orders_text orders_table
unfolding understood everything
orders_is = (refl, refl, refl, (refl, refl))

orders_next : created (schema_of 8 3) (record orders_table { tree = 0 }) ≡ (schema_of 9 3)
unfolding everything
orders_next = refl

makes_orders : Makes (schema_of 8 3) orders_text (schema_of 9 3)
makes_orders = makes_table (schema_of 8 3) (schema_of 9 3) orders_text orders_table orders_is orders_next refl refl refl

order_positions_is : IsCreate (schema_of 9 3) order_positions_text order_positions_table
unfolding understood everything
order_positions_is = (refl, refl, refl, (refl, refl))

order_positions_next : created (schema_of 9 3) (record order_positions_table { tree = 0 }) ≡ (schema_of 10 5)
unfolding everything
order_positions_next = refl

makes_order_positions : Makes (schema_of 9 3) order_positions_text (schema_of 10 5)
makes_order_positions = makes_table (schema_of 9 3) (schema_of 10 5) order_positions_text order_positions_table order_positions_is order_positions_next refl refl refl

waiting_is : IsCreate (schema_of 10 5) waiting_text waiting_table
unfolding understood everything
waiting_is = (refl, refl, refl, (refl, refl))

waiting_next : created (schema_of 10 5) (record waiting_table { tree = 0 }) ≡ (schema_of 11 5)
unfolding everything
waiting_next = refl

makes_waiting : Makes (schema_of 10 5) waiting_text (schema_of 11 5)
makes_waiting = makes_table (schema_of 10 5) (schema_of 11 5) waiting_text waiting_table waiting_is waiting_next refl refl refl

checkin_lists_is : IsCreate (schema_of 11 5) checkin_lists_text checkin_lists_table
unfolding understood everything
checkin_lists_is = (refl, refl, refl, (refl, refl))

checkin_lists_next : created (schema_of 11 5) (record checkin_lists_table { tree = 0 }) ≡ (schema_of 12 5)
unfolding everything
checkin_lists_next = refl

makes_checkin_lists : Makes (schema_of 11 5) checkin_lists_text (schema_of 12 5)
makes_checkin_lists = makes_table (schema_of 11 5) (schema_of 12 5) checkin_lists_text checkin_lists_table checkin_lists_is checkin_lists_next refl refl refl

list_items_is : IsCreate (schema_of 12 5) list_items_text list_items_table
unfolding understood everything
list_items_is = (refl, refl, refl, (refl, refl))

list_items_next : created (schema_of 12 5) (record list_items_table { tree = 0 }) ≡ (schema_of 13 6)
unfolding everything
list_items_next = refl

makes_list_items : Makes (schema_of 12 5) list_items_text (schema_of 13 6)
makes_list_items = makes_table (schema_of 12 5) (schema_of 13 6) list_items_text list_items_table list_items_is list_items_next refl refl refl

checkins_is : IsCreate (schema_of 13 6) checkins_text checkins_table
unfolding understood everything
checkins_is = (refl, refl, refl, (refl, refl))

checkins_next : created (schema_of 13 6) (record checkins_table { tree = 0 }) ≡ (schema_of 14 7)
unfolding everything
checkins_next = refl

makes_checkins : Makes (schema_of 13 6) checkins_text (schema_of 14 7)
makes_checkins = makes_table (schema_of 13 6) (schema_of 14 7) checkins_text checkins_table checkins_is checkins_next refl refl refl

quota_count_is : IsCreate (schema_of 14 7) quota_count_text quota_count_table
unfolding understood everything
quota_count_is = (refl, refl, refl, (refl, refl))

quota_count_next : created (schema_of 14 7) (record quota_count_table { tree = 0 }) ≡ (schema_of 15 7)
unfolding everything
quota_count_next = refl

makes_quota_count : Makes (schema_of 14 7) quota_count_text (schema_of 15 7)
makes_quota_count = makes_table (schema_of 14 7) (schema_of 15 7) quota_count_text quota_count_table quota_count_is quota_count_next refl refl refl

tokens_is : IsCreate (schema_of 15 7) tokens_text tokens_table
unfolding understood everything
tokens_is = (refl, refl, refl, (refl, refl))

tokens_next : created (schema_of 15 7) (record tokens_table { tree = 0 }) ≡ (schema_of 16 8)
unfolding everything
tokens_next = refl

makes_tokens : Makes (schema_of 15 7) tokens_text (schema_of 16 8)
makes_tokens = makes_table (schema_of 15 7) (schema_of 16 8) tokens_text tokens_table tokens_is tokens_next refl refl refl

kept_is : IsCreate (schema_of 16 8) kept_text kept_table
unfolding understood everything
kept_is = (refl, refl, refl, (refl, refl))

kept_next : created (schema_of 16 8) (record kept_table { tree = 0 }) ≡ (schema_of 17 9)
unfolding everything
kept_next = refl

makes_kept : Makes (schema_of 16 8) kept_text (schema_of 17 9)
makes_kept = makes_table (schema_of 16 8) (schema_of 17 9) kept_text kept_table kept_is kept_next refl refl refl

-- CREATE INDEX leaves the tables as they are
kept_by_moment_next : indexed (schema_of 17 9) kept_table (record kept_by_moment { tree = 0 }) ≡ schema_of 17 10
unfolding everything
kept_by_moment_next = refl

kept_by_moment_defined : index_defined_by kept_table kept_by_moment_text ≡ Ok (record kept_by_moment { tree = 0 })
unfolding everything
kept_by_moment_defined = refl

kept_by_moment_command : command_of (understood (schema_of 17 9) kept_by_moment_text) ≡ CreateIndex 16
unfolding understood everything
kept_by_moment_command = refl

kept_by_moment_text_is : statement_of kept_by_moment_text (understood (schema_of 17 9) kept_by_moment_text) ≡ kept_by_moment_text
unfolding understood everything
kept_by_moment_text_is = refl

kept_by_moment_plain : IsPlain (understood (schema_of 17 9) kept_by_moment_text)
unfolding understood everything
kept_by_moment_plain = (refl, refl)

indexes_kept : Makes (schema_of 17 9) kept_by_moment_text (schema_of 17 10)
indexes_kept old new at count h =
    let it = indexes (schema_of 17 9) (schema_of 17 10) kept_by_moment_text 16 kept_table (record kept_by_moment { tree = 0 }) kept_by_moment_command kept_by_moment_text_is refl kept_by_moment_defined kept_by_moment_plain kept_by_moment_next old new at.known at.inside count h in
    ([], record { tables = refl; known = it.0; inside = it.2; kept = it.1; empty = tt; listed = it.3 })

quota_release_is : IsCreate (schema_of 17 10) quota_release_text quota_release_table
unfolding understood everything
quota_release_is = (refl, refl, refl, (refl, refl))

quota_release_next : created (schema_of 17 10) (record quota_release_table { tree = 0 }) ≡ (schema_of 18 10)
unfolding everything
quota_release_next = refl

makes_quota_release : Makes (schema_of 17 10) quota_release_text (schema_of 18 10)
makes_quota_release = makes_table (schema_of 17 10) (schema_of 18 10) quota_release_text quota_release_table quota_release_is quota_release_next refl refl refl

quota_exited_is : IsCreate (schema_of 18 10) quota_exited_text quota_exited_table
unfolding understood everything
quota_exited_is = (refl, refl, refl, (refl, refl))

quota_exited_next : created (schema_of 18 10) (record quota_exited_table { tree = 0 }) ≡ (schema_of 19 10)
unfolding everything
quota_exited_next = refl

makes_quota_exited : Makes (schema_of 18 10) quota_exited_text (schema_of 19 10)
makes_quota_exited = makes_table (schema_of 18 10) (schema_of 19 10) quota_exited_text quota_exited_table quota_exited_is quota_exited_next refl refl refl

voucher_budget_is : IsCreate (schema_of 19 10) voucher_budget_text voucher_budget_table
unfolding understood everything
voucher_budget_is = (refl, refl, refl, (refl, refl))

voucher_budget_next : created (schema_of 19 10) (record voucher_budget_table { tree = 0 }) ≡ (schema_of 20 10)
unfolding everything
voucher_budget_next = refl

makes_voucher_budget : Makes (schema_of 19 10) voucher_budget_text (schema_of 20 10)
makes_voucher_budget = makes_table (schema_of 19 10) (schema_of 20 10) voucher_budget_text voucher_budget_table voucher_budget_is voucher_budget_next refl refl refl

voucher_spent_is : IsCreate (schema_of 20 10) voucher_spent_text voucher_spent_table
unfolding understood everything
voucher_spent_is = (refl, refl, refl, (refl, refl))

voucher_spent_next : created (schema_of 20 10) (record voucher_spent_table { tree = 0 }) ≡ (schema_of 21 10)
unfolding everything
voucher_spent_next = refl

makes_voucher_spent : Makes (schema_of 20 10) voucher_spent_text (schema_of 21 10)
makes_voucher_spent = makes_table (schema_of 20 10) (schema_of 21 10) voucher_spent_text voucher_spent_table voucher_spent_is voucher_spent_next refl refl refl

position_discount_is : IsCreate (schema_of 21 10) position_discount_text position_discount_table
unfolding understood everything
position_discount_is = (refl, refl, refl, (refl, refl))

position_discount_next : created (schema_of 21 10) (record position_discount_table { tree = 0 }) ≡ (schema_of 22 10)
unfolding everything
position_discount_next = refl

makes_position_discount : Makes (schema_of 21 10) position_discount_text (schema_of 22 10)
makes_position_discount = makes_table (schema_of 21 10) (schema_of 22 10) position_discount_text position_discount_table position_discount_is position_discount_next refl refl refl

-- ---- all of them, one after another

-- each statement leads to the next schema
abbrev Leads : Schema → List (List ℕ × Schema) → Type 1
Leads first [] = Unit {1}
Leads first (it ∷ steps) = Makes first it.0 it.1 × Leads it.1 steps

leads_at : (i : ℕ) (first : Schema) (steps : List (List ℕ × Schema)) → Leads first steps → i < length steps → Makes (stage i first steps) (get_or (map (λ it. it.0) steps) i []) (stage (suc i) first steps)
leads_at i first [] all within = absurd (omega (arith, within))
leads_at zero first (it ∷ steps) all within = all.0
leads_at (suc i) first (it ∷ steps) all within = leads_at i it.1 steps all.1 (omega (arith, within))

-- and after all of them
abbrev last : Schema → List (List ℕ × Schema) → Schema
last first [] = first
last first (it ∷ steps) = last it.1 steps

past : (i : ℕ) (first : Schema) (steps : List (List ℕ × Schema)) → length steps ≤ i → stage i first steps ≡ last first steps
past zero first [] all = refl
past (suc i) first [] all = refl
past zero first (it ∷ steps) all = absurd (omega (arith, all))
past (suc i) first (it ∷ steps) all = past i it.1 steps (omega (arith, all))

-- what makes the tables behind the first twelve
later : Leads (schema_after 12) (drop 12 steps)
later = (makes_list_items, (makes_checkins, (makes_quota_count, (makes_tokens, (makes_kept, (indexes_kept, (makes_quota_release, (makes_quota_exited, (makes_voucher_budget, (makes_voucher_spent, (makes_position_discount, tt)))))))))))

pub each : (i : ℕ) → i < 23 → Makes (schema_after i) (get_or statement_texts i []) (schema_after (suc i))
each i =
    leads_at i blank_schema steps (makes_shop, (makes_items, (makes_variations, (makes_quotas, (makes_quota_items, (makes_quota_variations, (makes_vouchers, (makes_cart_positions, (makes_orders, (makes_order_positions, (makes_waiting, (makes_checkin_lists, later))))))))))))

pub all_made : (i : ℕ) → 23 ≤ i → schema_after i ≡ schema
all_made i all = past i blank_schema steps all
