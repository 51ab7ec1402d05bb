-- What the SELECTs of all columns of `quota_variations` show.
use Rattle.std.proofs.Common.{◌≡◌, ◌∷◌, ℕ, List, [], codes, true, false, refl, arith}
use Rattle.sqlite_schema.specs.declared.command.Command.TheVariants.{Select}
use Rattle.sqlite_schema.specs.declared.schema.Schema.{Schema}
use Rattle.sqlite_resolve.specs.Compile.{first}
use Rattle.sqlite_tied.specs.Compute.{everything}
use Rattle.sqlite.specs.Listing.{understood, reads_listing}
use Rattle.file_schema.specs.Tables.{schema}
use Rattle.file_schema.specs.Shapes.{AsksFor, over, plainly, id_order, by_owner}
use Rattle.sqlite_sql.specs.Term.{Term, col}
use Rattle.file_reads.specs.Texts.{quota_variations_text}
use Rattle.file_rows.specs.declared.rows.QuotaVariation.{QuotaVariation}
use Rattle.file_rows.specs.Rows.{quota_variation_row}
use Rattle.file_rows.proofs.OwnedLemmas.{quota_variations_are}
use Rattle.file_reads.specs.Damage.{IsForReading}
use Rattle.file_reads.specs.Alone.{RunsAloneIn, RunsAloneSince}
use Rattle.file_reads.specs.Select.{AsksForIn, IsSelect, IsSelectSince, IsSelectByOwner}
use Rattle.file_reads.proofs.Back.{quota_variation_in, quota_variation_back}
use Rattle.file_reads.proofs.Queries.{is_query, query_reads}
use Rattle.file_reads.proofs.SinceLemmas.{Throughout, since_held, since_this}

abbrev pub select_text : List ℕ
select_text = quota_variations_text

abbrev project : List Term
project = col 1 0 ∷ col 1 1 ∷ col 1 2 ∷ []

-- over tables of a schema it is this SELECT, and runs alone
abbrev Asks : Schema → Type 0
Asks s = AsksForIn s (Select (plainly (over 6 [] project id_order)) (codes "rowid" ∷ codes "quota_id" ∷ codes "variation_id" ∷ [])) select_text × (reads_listing s select_text ≡ false) × RunsAloneIn s select_text

asked : Throughout 1 Asks
unfolding understood everything
asked = (((refl, (refl, refl)), refl, refl), (((refl, (refl, refl)), refl, refl), (((refl, (refl, refl)), refl, refl), tt)))

asks : is_query (first select_text) ≡ true
unfolding everything
asks = refl

pub reads_only : (s : Schema) → IsForReading s select_text
reads_only = query_reads select_text asks

-- so it is over the tables of each version that has them
pub select_since : IsSelectSince 1 select_text 6 []
select_since s h =
    let it = since_held 1 Asks asked s h in
    record { project = project; order = id_order; names = codes "rowid" ∷ codes "quota_id" ∷ codes "variation_id" ∷ []; asks = it.0; unlisted = it.1; shows = λ params r. refl; reads = reads_only }

pub select_is : IsSelect select_text 6 []
select_is = select_since schema (since_this 1 (omega arith) schema refl)

pub alone_since : RunsAloneSince 1 select_text
alone_since s h = (since_held 1 Asks asked s h).2

-- ---- by the quota

abbrev owned_text : List ℕ
owned_text = codes "SELECT rowid, quota_id, variation_id FROM quota_variations WHERE quota_id = ?1"

abbrev names : List (List ℕ)
names = codes "rowid" ∷ codes "quota_id" ∷ codes "variation_id" ∷ []

owned_reads : AsksFor (Select (plainly (over 6 by_owner project [])) names) owned_text × (reads_listing schema owned_text ≡ false)
unfolding understood everything
owned_reads = ((refl, (refl, refl)), refl)

asks_owned : is_query (first owned_text) ≡ true
unfolding everything
asks_owned = refl

pub by_owner_is : IsSelectByOwner owned_text 6 quota_variation_row (λ (w : QuotaVariation). w.quota) (λ t. t.quota_variations)
by_owner_is = record {
  select = record { project = project; order = []; names = names; asks = owned_reads.0; unlisted = owned_reads.1; shows = λ params r. refl; reads = query_reads owned_text asks_owned };
  owned = quota_variations_are;
  back = quota_variation_in;
  told = quota_variation_back;
}
