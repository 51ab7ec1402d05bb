-- The SELECT of all columns of each table.
use Rattle.std.proofs.Common.{◌≡◌, ◌∷◌, [], true, refl}
use Rattle.sqlite_value.specs.Order.{Row}
use Rattle.sqlite_tied.specs.Compute.{everything}
use Rattle.sqlite_resolve.specs.Compile.{first}
use Rattle.sqlite_sql.specs.Term.{eval_all}
use Rattle.sqlite.specs.Listing.{understood}
use Rattle.file_schema.specs.Described.{Described, select_text, column_names}
use Rattle.file_schema.specs.Descriptions.{quota_items, vouchers, order_positions}
use Rattle.file_schema.specs.Tables.{schema}
use Rattle.file_schema.specs.Parts.{row_shown}
use Rattle.file_schema.specs.Shapes.{id_order}
use Rattle.file_reads.specs.Asked.{Selects, IsSelected, shown_terms}
use Rattle.file_reads.proofs.Queries.{is_query, query_reads}
use Rattle.file_reads.proofs.SinceLemmas.{Throughout, since_held}

-- what is computed of each table
pub record IsRead (d : Described) : Type 0 where
  pub asked : Throughout d.since (Selects d)
  pub query : is_query (first (select_text d)) ≡ true
  pub shows : (params r : Row) → eval_all (shown_terms d) (params ∷ r ∷ []) ≡ row_shown schema d.tree r

selected : (d : Described) → IsRead d → IsSelected d
selected d read = record {
  select = λ s h.
      let it = since_held d.since (Selects d) read.asked s h in
      record { project = shown_terms d; order = id_order; names = column_names d; asks = it.asks; unlisted = it.unlisted; shows = read.shows; reads = query_reads (select_text d) read.query };
  reads = query_reads (select_text d) read.query;
  alone = λ s h. (since_held d.since (Selects d) read.asked s h).alone;
}

order_positions_read : IsRead order_positions
unfolding understood everything
order_positions_read = record { asked = (record { asks = (refl, (refl, refl)); unlisted = refl; alone = refl }, (record { asks = (refl, (refl, refl)); unlisted = refl; alone = refl }, (record { asks = (refl, (refl, refl)); unlisted = refl; alone = refl }, tt))); query = refl; shows = λ params r. refl }

quota_items_read : IsRead quota_items
unfolding understood everything
quota_items_read = record { asked = (record { asks = (refl, (refl, refl)); unlisted = refl; alone = refl }, (record { asks = (refl, (refl, refl)); unlisted = refl; alone = refl }, (record { asks = (refl, (refl, refl)); unlisted = refl; alone = refl }, tt))); query = refl; shows = λ params r. refl }

vouchers_read : IsRead vouchers
unfolding understood everything
vouchers_read = record { asked = (record { asks = (refl, (refl, refl)); unlisted = refl; alone = refl }, (record { asks = (refl, (refl, refl)); unlisted = refl; alone = refl }, (record { asks = (refl, (refl, refl)); unlisted = refl; alone = refl }, tt))); query = refl; shows = λ params r. refl }

pub order_positions_selected : IsSelected order_positions
order_positions_selected = selected _ order_positions_read

pub quota_items_selected : IsSelected quota_items
quota_items_selected = selected _ quota_items_read

pub vouchers_selected : IsSelected vouchers
vouchers_selected = selected _ vouchers_read
