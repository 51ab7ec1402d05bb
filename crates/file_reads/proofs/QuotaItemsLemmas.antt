-- The items of a quota, looked up by the quota.
use Rattle.std.proofs.Common.{◌≡◌, [], true, false, refl}
use Rattle.sqlite_schema.specs.declared.command.Command.TheVariants.{Select}
use Rattle.sqlite_resolve.specs.Compile.{first}
use Rattle.sqlite_tied.specs.Compute.{everything}
use Rattle.sqlite.specs.Listing.{understood, reads_listing}
use Rattle.file_schema.specs.Described.{column_names, select_owned_text}
use Rattle.file_schema.specs.Descriptions.{quota_items}
use Rattle.file_schema.specs.Tables.{schema}
use Rattle.file_schema.specs.Shapes.{AsksFor, over, plainly, by_owner}
use Rattle.file_rows.specs.declared.rows.QuotaItem.{QuotaItem}
use Rattle.file_rows.specs.Rows.{quota_item_row}
use Rattle.file_rows.proofs.OwnedLemmas.{quota_items_are}
use Rattle.file_reads.specs.Asked.{shown_terms}
use Rattle.file_reads.specs.Select.{IsSelectByOwner}
use Rattle.file_reads.proofs.Back.{quota_item_in, quota_item_back}
use Rattle.file_reads.proofs.Queries.{is_query, query_reads}

owned_reads : AsksFor (Select (plainly (over 4 by_owner (shown_terms quota_items) [])) (column_names quota_items)) (select_owned_text quota_items) × (reads_listing schema (select_owned_text quota_items) ≡ false)
unfolding understood everything
owned_reads = ((refl, (refl, refl)), refl)

asks_owned : is_query (first (select_owned_text quota_items)) ≡ true
unfolding everything
asks_owned = refl

pub by_owner_is : IsSelectByOwner (select_owned_text quota_items) 4 quota_item_row (λ (w : QuotaItem). w.quota) (λ t. t.quota_items)
by_owner_is = record {
  select = record { project = shown_terms quota_items; order = []; names = column_names quota_items; asks = owned_reads.0; unlisted = owned_reads.1; shows = λ params r. refl; reads = query_reads (select_owned_text quota_items) asks_owned };
  owned = quota_items_are;
  back = quota_item_in;
  told = quota_item_back;
}
