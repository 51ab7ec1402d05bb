-- What a SELECT of all columns of `shop` shows.
use Rattle.std.proofs.Common.{◌≡◌, ◌∷◌, ℕ, List, [], codes, true, false, refl, arith}
use Rattle.sqlite_schema.specs.declared.command.Command.TheVariants.{Select}
use Rattle.sqlite_schema.specs.declared.schema.Schema.{Schema}
use Rattle.sqlite_resolve.specs.Compile.{first}
use Rattle.sqlite_tied.specs.Compute.{everything}
use Rattle.sqlite.specs.Listing.{understood, reads_listing}
use Rattle.file_schema.specs.Tables.{schema}
use Rattle.file_schema.specs.Shapes.{over, plainly, id_order}
use Rattle.sqlite_sql.specs.Term.{Term, col}
use Rattle.file_reads.specs.Texts.{shop_text}
use Rattle.file_reads.specs.Damage.{IsForReading}
use Rattle.file_reads.specs.Alone.{RunsAloneIn, RunsAloneSince}
use Rattle.file_reads.specs.Select.{AsksForIn, IsSelect, IsSelectSince}
use Rattle.file_reads.proofs.Queries.{is_query, query_reads}
use Rattle.file_reads.proofs.SinceLemmas.{Throughout, since_held, since_this}

abbrev pub select_text : List ℕ
select_text = shop_text

abbrev project : List Term
project = col 1 0 ∷ col 1 2 ∷ col 1 3 ∷ col 1 4 ∷ col 1 5 ∷ col 1 6 ∷ col 1 7 ∷ col 1 8 ∷ col 1 9 ∷ col 1 10 ∷ col 1 11 ∷ col 1 12 ∷ col 1 13 ∷ col 1 14 ∷ col 1 15 ∷ col 1 16 ∷ []

-- what the columns are called
abbrev names : List (List ℕ)
names =
    codes "id" ∷ codes "version" ∷ codes "organizer" ∷ codes "event" ∷ codes "moment" ∷ codes "next_item" ∷ codes "next_variation" ∷ codes "next_quota"
    ∷ codes "next_voucher" ∷ codes "next_cart" ∷ codes "next_order" ∷ codes "next_position" ∷ codes "next_waiting" ∷ codes "next_list" ∷ codes "next_checkin" ∷ codes "next_token" ∷ []

-- over tables of a schema it is this SELECT, and runs alone
abbrev Asks : Schema → Type 0
Asks s = AsksForIn s (Select (plainly (over 0 [] project id_order)) names) select_text × (reads_listing s select_text ≡ false) × RunsAloneIn s select_text

asked : Throughout 1 Asks
unfolding understood everything
asked = (((refl, (refl, refl)), refl, refl), (((refl, (refl, refl)), refl, refl), (((refl, (refl, refl)), refl, refl), tt)))

asks : is_query (first select_text) ≡ true
unfolding everything
asks = refl

pub reads_only : (s : Schema) → IsForReading s select_text
reads_only = query_reads select_text asks

-- so it is over the tables of each version that has them
pub select_since : IsSelectSince 1 select_text 0 []
select_since s h =
    let it = since_held 1 Asks asked s h in
    record { project = project; order = id_order; names = names; asks = it.0; unlisted = it.1; shows = λ params r. refl; reads = reads_only }

pub select_is : IsSelect select_text 0 []
select_is = select_since schema (since_this 1 (omega arith) schema refl)

pub alone_since : RunsAloneSince 1 select_text
alone_since s h = (since_held 1 Asks asked s h).2
