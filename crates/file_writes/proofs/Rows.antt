-- A statement on one table, and what all tables hold after it.
use Rattle.std.proofs.Common.{◌≡◌, ◌/◌, List, [], ◌∷◌, length, map, ℕ, ℤ, true, All, Ok, Err, Result, OnOk, refl, sym, subst, ◌∙◌, pos}
use Rattle.std.specs.List.Sorted.{IsPermutation}
use Rattle.sqlite_value.specs.declared.value.Value.TheVariants.{Int}
use Rattle.sqlite_value.specs.Order.{Row}
use Rattle.sqlite_trees.specs.Tree.{rowid}
use Rattle.sqlite_trees.specs.View.{is_int}
use Rattle.sqlite_schema.specs.declared.schema.Table.{Table}
use Rattle.sqlite_schema.specs.declared.command.Command.TheVariants.{Insert, Update}
use Rattle.sqlite_schema.specs.declared.command.Source.TheVariants.{Values}
use Rattle.sqlite_sql.specs.Term.{Term, col, eval_all}
use Rattle.sqlite_rules.specs.Cast.{cast_row}
use Rattle.sqlite.specs.Effect.{value_rows}
use Rattle.sqlite.specs.Listing.{understood}
use Rattle.sqlite.specs.State.{State, Executes}
use Rattle.sqlite.proofs.Callers.{IsPlain, command_of}
use Rattle.file_schema.specs.Tables.{schema}
use Rattle.file_schema.specs.Parts.{HoldParts, row_shown, with_rows, without}
use Rattle.file_schema.specs.Shapes.{over, plainly, equals, delete_keyed}
use Rattle.file_schema.specs.Writes.{Edits}
use Rattle.file_schema.specs.Plain.{IsPlainTable}
use Rattle.file_schema.proofs.Generic.{deletes, updates}
use Rattle.file_schema.proofs.Writes.{AreNumbered, inserts_keyed, updates_keyed, misses_keyed, deletes_keyed}
use Rattle.file_schema.proofs.Parts.{others_from, after_write, row_added, row_removed, row_put, numbered_tree}
use Rattle.file_rows.specs.Tables.{Tables, parts, Holds}
use Rattle.file_rows.specs.Changes.{IsInside, Changes}

module _ (at : ℕ) (table : Table) (is : IsPlainTable schema at table) (sql : List ℕ) (plain : IsPlain (understood schema sql)) (old new : State) (inside : IsInside old) (limit : new.step_limit ≡ old.step_limit) where
  -- what an edit of the table's rows makes of all tables
  edited : (gone : List ℤ) (news : List Row) → Edits schema table gone news old new
      → (turn : List Row → List Row) → ((t : Tables) → Holds old.now.trees t → (rows : List Row) → IsPermutation rows (map (row_shown schema table.tree) (old.now.trees table.tree)) → IsPermutation (turn rows) (map (row_shown schema table.tree) (new.now.trees table.tree)))
      → (change : Tables → Tables) → ((t : Tables) → parts (change t) ≡ with_rows table.tree turn (parts t)) → Changes change old new
  edited gone news it turn turned change same =
      let db = old.now.trees in
      let next = new.now.trees in
      record {
        known = it.known;
        inside = it.shows.mode;
        committed = it.shows.committed_is;
        listed = λ _. it.listed;
        holds = λ t held. subst (HoldParts schema next) (sym (same t))
            (after_write schema table.tree turn db next (turned t held) (parts t) (others_from table.tree db next schema.tables (parts t) refl it.applied.tables) held);
      }

  -- INSERT: the table has one row more
  pub adds_row : (terms : List Term) (width : ℕ) → command_of (understood schema sql) ≡ Insert at (Values terms width) → (params source : Row) → value_rows params width (length terms / width) terms ≡ source ∷ []
      → (id : ℤ) (rest : Row) → cast_row table source ≡ Int id ∷ rest → (row : Row) → row_shown schema table.tree (Int id ∷ rest) ≡ row
      → (change : Tables → Tables) → ((t : Tables) → parts (change t) ≡ with_rows table.tree (λ rows. row ∷ rows) (parts t))
      → (count : ℕ) → Executes sql params old new (Ok count) → Changes change old new
  adds_row terms width command params source sources id rest made row shows change same count h =
      let it = inserts_keyed schema at table is sql plain old new inside.known inside.inside limit terms width command params source sources id rest made count h in
      edited [] _ it.0 (λ rows. row ∷ rows)
      (λ t held rows holds. row_added (row_shown schema table.tree) (Int id ∷ rest) row (old.now.trees table.tree) (new.now.trees table.tree) rows shows it.1 holds) change same

  module _ (rows : Tables → List Row) (numbered : (t : Tables) → All (λ r. is_int (rowid r) ≡ true) (rows t))
      (held_at : (t : Tables) → Holds old.now.trees t → IsPermutation (rows t) (map (row_shown schema table.tree) (old.now.trees table.tree))) where
    numbers : (t : Tables) → Holds old.now.trees t → AreNumbered (old.now.trees table.tree)
    numbers t held = numbered_tree (row_shown schema table.tree) (λ r. refl) (old.now.trees table.tree) (rows t) (numbered t) (held_at t held)

    -- DELETE .. WHERE id = ?1: the rows with another id stay
    pub removes_row : command_of (understood schema sql) ≡ delete_keyed at table.tree → (id count : ℕ) → Executes sql (Int (pos id) ∷ []) old new (Ok count)
        → (change : Tables → Tables) → ((t : Tables) → parts (change t) ≡ with_rows table.tree (without (pos id)) (parts t)) → Changes change old new
    removes_row command id count h change same =
        let did = deletes schema at table is sql plain (Int (pos id) ∷ []) old new inside.known inside.inside limit (plainly (over table.tree (equals (col 1 0) (col 0 0) ∷ []) (col 1 0 ∷ []) [])) command count h in
        edited _ [] did.2 (without (pos id))
        (λ t held rows holds.
        let it = deletes_keyed schema at table is sql plain old new inside.known inside.inside limit (numbers t held) command (pos id) count h in
        row_removed (row_shown schema table.tree) (pos id) (λ r. refl) (old.now.trees table.tree) (new.now.trees table.tree) rows it.2 holds)
        change same

    module _ (project : List Term) (command : command_of (understood schema sql) ≡ Update at (plainly (over table.tree (equals (col 1 0) (col 0 0) ∷ []) project []))) where
      -- UPDATE .. WHERE id = ?1, whatever it counts: other tables stand, and this one is as it is told
      updates_row : (id : ℕ) (more : Row) (count : ℕ) → Executes sql (Int (pos id) ∷ more) old new (Ok count) → (turn : List Row → List Row)
          → ((t : Tables) → Holds old.now.trees t → (rows : List Row) → IsPermutation rows (map (row_shown schema table.tree) (old.now.trees table.tree)) → IsPermutation (turn rows) (map (row_shown schema table.tree) (new.now.trees table.tree)))
          → (change : Tables → Tables) → ((t : Tables) → parts (change t) ≡ with_rows table.tree turn (parts t)) → Changes change old new
      updates_row id more count h turn turned change same =
          let did = updates schema at table is sql plain (Int (pos id) ∷ more) old new inside.known inside.inside limit (plainly (over table.tree (equals (col 1 0) (col 0 0) ∷ []) project [])) command count h in
          edited _ _ did.2.2 turn turned change same

      -- one row: it stands in the place of the one with its id
      pub puts_row : (id : ℕ) (more row : Row)
          → (source rest : Row) → ((r : Row) → eval_all project ((Int (pos id) ∷ more) ∷ r ∷ []) ≡ rowid r ∷ rowid r ∷ source) → cast_row table (Int (pos id) ∷ source) ≡ Int (pos id) ∷ rest
          → row_shown schema table.tree (Int (pos id) ∷ rest) ≡ row → Executes sql (Int (pos id) ∷ more) old new (Ok 1)
          → (change : Tables → Tables) → ((t : Tables) → parts (change t) ≡ with_rows table.tree (λ rows. row ∷ without (pos id) rows) (parts t)) → Changes change old new
      puts_row id more row source rest shape made shows h change same =
          updates_row id more 1 h (λ rows. row ∷ without (pos id) rows)
          (λ t held rows holds.
          let it = updates_keyed schema at table is sql plain old new inside.known inside.inside limit (numbers t held) project command (pos id) more rest source shape made h in
          row_put (row_shown schema table.tree) (pos id) (λ r. refl) (Int (pos id) ∷ rest) row (old.now.trees table.tree) (new.now.trees table.tree) rows shows it.1 holds)
          change same

      -- no row: no row has the id
      pub misses_row : (id : ℕ) (more : Row) → Executes sql (Int (pos id) ∷ more) old new (Ok 0)
          → (change : Tables → Tables) → ((t : Tables) → parts (change t) ≡ with_rows table.tree (without (pos id)) (parts t)) → Changes change old new
      misses_row id more h change same =
          updates_row id more 0 h (without (pos id))
          (λ t held rows holds.
          let it = misses_keyed schema at table is sql plain old new inside.known inside.inside limit (numbers t held) project command (pos id) more h in
          row_removed (row_shown schema table.tree) (pos id) (λ r. refl) (old.now.trees table.tree) (new.now.trees table.tree) rows it.1 holds)
          change same

-- a change after another
pub then_changes : (first second : Tables → Tables) (old mid new : State) → Changes first old mid → Changes second mid new → Changes (λ t. second (first t)) old new
then_changes first second old mid new a b = record { known = b.known; inside = b.inside; committed = b.committed ∙ a.committed; listed = λ d. b.listed (a.listed d); holds = λ t held. b.holds (first t) (a.holds t held) }

pub inside_after : (change : Tables → Tables) (old new : State) → Changes change old new → IsInside new
inside_after change old new h = record { known = h.known; inside = h.inside }

pub on_ok : {T E : Type 0} (r : Result T E) (P Q : Type 0) → OnOk r P → (P → Q) → OnOk r Q
on_ok (Ok x) P Q h k = k h
on_ok (Err e) P Q h k = tt
