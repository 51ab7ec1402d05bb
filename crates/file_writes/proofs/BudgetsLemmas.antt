-- The statements on `voucher_budget`.
use Rattle.std.proofs.Common.{◌≡◌, List, ◌∷◌, ℕ, codes, drop, map, refl}
use Rattle.sqlite_value.specs.declared.value.Value.TheVariants.{Null}
use Rattle.sqlite_value.specs.Order.{Row}
use Rattle.sqlite_rules.specs.Cast.{cast_row}
use Rattle.sqlite_tied.specs.Compute.{everything}
use Rattle.sqlite.specs.Listing.{understood}
use Rattle.file_schema.specs.Tables.{voucher_budget_table}
use Rattle.file_schema.specs.Shapes.{AsksFor, insert_keyed, update_keyed, delete_keyed}
use Rattle.file_schema.proofs.Parts.{all_numbered, rows_without}
use Rattle.file_schema.proofs.Casts.{cast_null, cast_int}
use Rattle.file_rows.specs.declared.rows.BudgetRow.{BudgetRow}
use Rattle.file_rows.specs.Cells.{number}
use Rattle.file_rows.specs.Rows.{budget_row}
use Rattle.file_rows.specs.Changes.{with_budget, without_budget}
use Rattle.file_writes.specs.Statements.{AreStatementsOf}

abbrev insert_text : List ℕ
insert_text = codes "INSERT INTO voucher_budget (voucher_id, budget) VALUES (?1, ?2)"

abbrev update_text : List ℕ
update_text = codes "UPDATE voucher_budget SET budget = ?2 WHERE voucher_id = ?1"

abbrev delete_text : List ℕ
delete_text = codes "DELETE FROM voucher_budget WHERE voucher_id = ?1"

inserts : AsksFor (insert_keyed 19 1) insert_text
unfolding understood everything
inserts = (refl, (refl, refl))

updates : AsksFor (update_keyed 19 29 1) update_text
unfolding understood everything
updates = (refl, (refl, refl))

removes : AsksFor (delete_keyed 19 29) delete_text
unfolding understood everything
removes = (refl, (refl, refl))

-- the columns behind the number, as they are stored
abbrev behind : BudgetRow → Row
behind w = Null ∷ drop 1 (budget_row w)

stays : (w : BudgetRow) → cast_row voucher_budget_table (number w.voucher_id ∷ behind w) ≡ number w.voucher_id ∷ behind w
stays w = simp (cast_int, cast_null)

pub statements_are : AreStatementsOf budget_row (λ w. w.voucher_id) with_budget without_budget insert_text update_text delete_text
statements_are = record {
  at = 19;
  table = voucher_budget_table;
  rows = λ t. map budget_row t.budgets;
  is = record { plain = record { placed = refl; uncounted = refl; unstamped = refl; restricts = refl }; holds = λ db t h. h.1.1.1.1.1.1.1.1.1.1.1.1.1.1.1.1.1.1.1.0; numbered = λ t. all_numbered budget_row (λ w. w.voucher_id) (λ w. refl) t.budgets };
  adds = λ w t. refl;
  takes = λ id t. rw (rows_without budget_row (λ w. w.voucher_id) (λ w. refl) id t.budgets);
  behind = behind;
  begins = λ w. (_, refl);
  stays = stays;
  shows = λ w. refl;
  terms = _;
  width = 3;
  inserts = inserts;
  fills = λ w. refl;
  project = _;
  updates = updates;
  sets = λ w r. refl;
  removes = removes;
}
