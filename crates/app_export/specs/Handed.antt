-- Which lines of an export a sink was handed: all, or those before one that it refused or that couldn't be read.
use Rattle.std.specs.Prelude.{◌≡◌, ◌≢◌, List, [], ◌∷◌, ◌++◌}
use Rattle.sqlite_value.specs.Order.{Row}
use Rattle.sqlite.specs.Effect.{Database}
use Rattle.sqlite.specs.State.{State as Connected, HasCleanDisk}
use Rattle.file_schema.specs.Tables.{schema}
use Rattle.file_rows.specs.Tables.{Tables, Holds}
use Rattle.file_rows.specs.Unread.{IsUnread}
use Rattle.file_rows.specs.declared.rows.ShopRow.{ShopRow}
use Rattle.model_export.specs.declared.row.ExportRow.{ExportRow}
use Rattle.model_export.specs.declared.sink.SinkFault.{SinkFault}
use Rattle.model_answers.specs.declared.kept.Kept.{Kept}
use Rattle.model_rows.specs.Lists.{Lists, State}
use Rattle.model_invariant.specs.Sound.{IsSound}
use Rattle.file_meaning.specs.Stands.{Stand}
use Rattle.file_scan.specs.Lawful.{AreFit}
use Rattle.file_scan.specs.Rests.{IsOpenAt}
use Rattle.file_scan.specs.Took.{Took}
use Rattle.app_export.specs.Cells.{IsFitLine, cells}
use Rattle.app_export.specs.declared.positions.WalkError.{WalkError}
use Rattle.app_export.specs.declared.positions.WalkError.TheVariants.{Sink, Rows}

-- of the sound box office whose tables the open connection shows, where the disk returned what was written
abbrev pub OfOffice : Connected → Connected → (Lists → Type 0) → Type 0
OfOffice old new P = HasCleanDisk new → (db : Database) → IsOpenAt db old → db.schema ≡ schema → (t : Tables) → Holds db.trees t → (shop : ShopRow) (s : State) (ks : List Kept) → Stand shop t s ks → IsSound s → P s.lists

-- of tables that the open connection shows, which hold a shop whose values are within their limits, where the disk returned what was written
abbrev pub OfFitTables : Connected → Connected → Type 0 → Type 0
OfFitTables old new P = HasCleanDisk new → (db : Database) → IsOpenAt db old → db.schema ≡ schema → (t : Tables) → Holds db.trees t → AreFit t → P

-- the list begins with these
abbrev pub IsFrontOf : List ExportRow → List ExportRow → Type 0
IsFrontOf front all = (rest : List ExportRow) × (front ++ rest ≡ all)

module _ {K : Type 0} (takes : K → ExportRow → K → Type 0) (refuses : K → ExportRow → SinkFault → K → Type 0) (P : List ExportRow → Type 0) (before after : K) where
  -- all of these were taken
  pub record HandsAll : Type 0 where
    pub rows : List ExportRow
    pub took : Took takes before rows after
    pub are : P rows

  -- some were taken, and the one behind them was refused
  pub record HandsUpTo (fault : SinkFault) : Type 0 where
    pub rows : List ExportRow
    pub row : ExportRow
    pub mid : K
    pub took : Took takes before rows mid
    pub refused : refuses mid row fault after
    pub are : P (rows ++ row ∷ [])

  -- what was taken of a walk that ended so: where the sink refused, up to the row that it refused, else all that were read
  abbrev pub HandsSome : WalkError → Type 0
  HandsSome (Sink fault) = HandsUpTo fault
  HandsSome (Rows e) = HandsAll

-- what a row leaves that isn't taken: one that isn't read leaves all as it was, for want of memory or because it is that of no line within its limits
abbrev pub StopsAt : {K : Type 0} → (K → ExportRow → SinkFault → K → Type 0) → K → Row → WalkError → K → Type 0
StopsAt refuses old row (Sink fault) new = (e : ExportRow) × (row ≡ cells e) × refuses old e fault new
StopsAt refuses old row (Rows e) new = (new ≡ old) × IsUnread ((line : ExportRow) → IsFitLine line → row ≢ cells line) e
