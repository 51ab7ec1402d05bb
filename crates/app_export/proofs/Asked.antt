-- What the SELECT of order positions with their orders and vouchers asks for.
use Rattle.std.proofs.Common.{◌≡◌, ◌∷◌, ℕ, pos, negsuc, List, [], codes, true, false, None, refl}
use Rattle.sqlite.specs.Collation.TheVariants.{Binary}
use Rattle.sqlite_value.specs.declared.value.Value.TheVariants.{Int}
use Rattle.sqlite_value.specs.declared.keys.Key.{Key}
use Rattle.sqlite_value.specs.Keys.{ascending}
use Rattle.sqlite_sql.specs.Term.{Term, lit, col}
use Rattle.sqlite_sql.specs.Query.{Query, inner, left, end}
use Rattle.sqlite_schema.specs.declared.command.Command.TheVariants.{Select}
use Rattle.sqlite_tied.specs.Compute.{everything}
use Rattle.sqlite.specs.Listing.{understood, reads_listing}
use Rattle.sqlite_resolve.specs.Compile.{first}
use Rattle.file_schema.specs.Tables.{schema}
use Rattle.file_schema.specs.Shapes.{AsksFor, plainly, equals}
use Rattle.file_reads.proofs.Queries.{is_query}

abbrev pub joined_text : List ℕ
joined_text = codes "SELECT p.order_id, p.positionid, o.status, p.item_id, p.variation_id, p.price, v.code, p.secret FROM order_positions AS p JOIN orders AS o ON o.id = p.order_id LEFT JOIN vouchers AS v ON v.id = p.voucher_id ORDER BY p.order_id, p.positionid"

-- the order is the position's
abbrev pub partner : List Term
partner = equals (col 2 0) (col 1 2) ∷ []

-- the voucher is the position's
abbrev pub named : List Term
named = equals (col 3 0) (col 1 7) ∷ []

abbrev pub terms : List Term
terms = col 1 2 ∷ col 1 3 ∷ col 2 3 ∷ col 1 4 ∷ col 1 5 ∷ col 1 6 ∷ col 3 2 ∷ col 1 8 ∷ []

abbrev pub keys : List (Term × Key)
keys = (col 1 2, ascending Binary) ∷ (col 1 3, ascending Binary) ∷ []

abbrev pub joined : Query
joined = record {
  from = inner 12 (inner 11 (left 8 named end));
  filter = partner;
  group = None;
  project = terms;
  distinct = false;
  collations = [];
  order = keys;
  limit = lit (Int (negsuc 0));
  offset = lit (Int (pos 0));
}

abbrev pub names : List (List ℕ)
names = codes "order_id" ∷ codes "positionid" ∷ codes "status" ∷ codes "item_id" ∷ codes "variation_id" ∷ codes "price" ∷ codes "code" ∷ codes "secret" ∷ []

pub asks : AsksFor (Select (plainly joined) names) joined_text × (reads_listing schema joined_text ≡ false)
unfolding understood everything
asks = ((refl, (refl, refl)), refl)

pub only_asks : is_query (first joined_text) ≡ true
unfolding everything
only_asks = refl
