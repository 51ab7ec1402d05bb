-- What the statements on `kept` do.
use Rattle.std.proofs.Common.{◌≡◌, List, [], ◌∷◌, ℕ, codes, Ok, refl, pos}
use Rattle.sqlite_value.specs.declared.value.Value.TheVariants.{Blob}
use Rattle.sqlite_value.specs.Order.{Row}
use Rattle.sqlite_rules.specs.Cast.{cast_row}
use Rattle.sqlite_tied.specs.Compute.{everything}
use Rattle.sqlite.specs.Listing.{understood}
use Rattle.sqlite.specs.State.{State, Executes}
use Rattle.sqlite.proofs.Callers.{IsPlain, command_of}
use Rattle.file_schema.specs.Tables.{schema, kept_table}
use Rattle.file_schema.specs.Shapes.{insert_rowid}
use Rattle.file_schema.specs.Plain.{IsPlainTable}
use Rattle.file_schema.proofs.Casts.{cast_int}
use Rattle.file_rows.specs.declared.rows.KeptRow.{KeptRow}
use Rattle.file_rows.specs.Cells.{number, methods}
use Rattle.file_rows.specs.Rows.{kept_row}
use Rattle.file_rows.specs.Changes.{IsInside, Changes, with_kept}
use Rattle.file_writes.proofs.CastLemmas.{cast_methods}
use Rattle.file_writes.proofs.Rows.{adds_row}

abbrev pub insert_text : List ℕ
insert_text = codes "INSERT INTO kept (rowid, token_id, request_key, first_moment, status, allow, body) VALUES (?1, ?2, ?3, ?4, ?5, ?6, ?7)"

insert_is : (command_of (understood schema insert_text) ≡ insert_rowid 16 6) × IsPlain (understood schema insert_text)
unfolding understood everything
insert_is = (refl, (refl, refl))

table_is : IsPlainTable schema 16 kept_table
table_is = record { placed = refl; uncounted = refl; unstamped = refl; restricts = refl }

-- the row as it is stored
abbrev stored : KeptRow → Row
stored w = number w.rowid ∷ number w.kept.token ∷ Blob w.kept.key ∷ number w.kept.at ∷ number w.kept.response.status ∷ methods w.kept.response.allow ∷ Blob w.kept.response.body ∷ []

casts : (w : KeptRow) → cast_row kept_table (stored w) ≡ stored w
casts w = simp (cast_int, cast_methods)

module _ (old new : State) (at : IsInside old) (limit : new.step_limit ≡ old.step_limit) where
  pub adds : (w : KeptRow) (count : ℕ) → Executes insert_text (kept_row w) old new (Ok count) → Changes (with_kept w) old new
  adds w count h =
      adds_row 16 kept_table table_is insert_text insert_is.1 old new at limit _ 7 insert_is.0 (kept_row w) (stored w) refl (pos w.rowid) _ (casts w) (kept_row w) refl (with_kept w) (λ t. refl) count h
