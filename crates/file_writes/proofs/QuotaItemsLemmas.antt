-- The items of a quota are removed by the quota.
use Rattle.std.proofs.Common.{[], ◌∷◌, refl}
use Rattle.sqlite_sql.specs.Term.{col}
use Rattle.sqlite_schema.specs.declared.command.Command.TheVariants.{Delete}
use Rattle.sqlite_tied.specs.Compute.{everything}
use Rattle.sqlite.specs.Listing.{understood}
use Rattle.file_schema.specs.Described.{table_of, delete_owned_text}
use Rattle.file_schema.specs.Descriptions.{quota_items}
use Rattle.file_schema.specs.Shapes.{AsksFor, over, plainly, by_owner}
use Rattle.file_rows.specs.declared.rows.QuotaItem.{QuotaItem}
use Rattle.file_rows.specs.Rows.{quota_item_row}
use Rattle.file_rows.proofs.OwnedLemmas.{quota_items_are}
use Rattle.file_writes.specs.Removed.{IsDeleteByOwner}
use Rattle.file_writes.proofs.AskedTexts.{quota_items_asked}

removes_owned : AsksFor (Delete 4 (plainly (over 4 by_owner (col 1 0 ∷ []) []))) (delete_owned_text quota_items)
unfolding understood everything
removes_owned = (refl, (refl, refl))

pub by_owner_is : IsDeleteByOwner (delete_owned_text quota_items) quota_item_row (λ (w : QuotaItem). w.rowid) (λ w. w.quota) (λ t. t.quota_items) (λ xs t. record t { quota_items = xs })
by_owner_is = record {
  at = 4;
  table = table_of quota_items;
  plain = quota_items_asked.plain;
  asks = removes_owned;
  owned = quota_items_are;
  numbered = λ w. refl;
  puts = λ xs t. refl;
}
