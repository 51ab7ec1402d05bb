-- What the SELECT of all columns of a described table is, over the tables of each version that has it.
use Rattle.std.specs.Prelude.{◌≡◌, false, List, [], ◌∷◌, length, map}
use Rattle.sqlite_schema.specs.declared.command.Command.TheVariants.{Select}
use Rattle.sqlite_schema.specs.declared.schema.Schema.{Schema}
use Rattle.sqlite_sql.specs.Term.{Term, col}
use Rattle.sqlite.specs.Listing.{reads_listing}
use Rattle.file_schema.specs.Described.{Described, select_text, column_names, first_place}
use Rattle.file_schema.specs.Shapes.{places, over, plainly, id_order}
use Rattle.file_reads.specs.Alone.{RunsAloneIn, RunsAloneSince}
use Rattle.file_reads.specs.Damage.{IsForReading}
use Rattle.file_reads.specs.Select.{AsksForIn, IsSelectSince}

-- the number, and each other column
abbrev pub shown_terms : Described → List Term
shown_terms d = col 1 0 ∷ map (col 1) (places (first_place d.key) (length d.fields))

-- over tables of a schema the text is the SELECT of all columns of the table by number, and runs alone
pub record Selects (d : Described) (s : Schema) : Type 0 where
  pub asks : AsksForIn s (Select (plainly (over d.tree [] (shown_terms d) id_order)) (column_names d)) (select_text d)
  pub unlisted : reads_listing s (select_text d) ≡ false
  pub alone : RunsAloneIn s (select_text d)

-- over tables of each version that has the table it is a SELECT of all its rows, and over any others it only reads
pub record IsSelected (d : Described) : Type 0 where
  pub select : IsSelectSince d.since (select_text d) d.tree []
  pub reads : (s : Schema) → IsForReading s (select_text d)
  pub alone : RunsAloneSince d.since (select_text d)
