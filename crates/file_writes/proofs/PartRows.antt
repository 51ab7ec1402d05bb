-- An UPDATE by id of some columns only.
use Rattle.std.proofs.Common.{◌≡◌, ◌==◌, not, List, [], ◌∷◌, map, filter, ℕ, Ok, refl, sym, subst, pos}
use Rattle.std.specs.List.Sorted.{IsPermutation}
use Rattle.sqlite_value.specs.declared.value.Value.TheVariants.{Int}
use Rattle.sqlite_value.specs.Order.{Row}
use Rattle.sqlite_trees.specs.Tree.{rowid}
use Rattle.sqlite_schema.specs.declared.schema.Table.{Table}
use Rattle.sqlite_schema.specs.declared.command.Command.TheVariants.{Update}
use Rattle.sqlite_sql.specs.Term.{Term, col, eval_all}
use Rattle.sqlite_rules.specs.Cast.{cast_row}
use Rattle.sqlite.specs.Listing.{understood}
use Rattle.sqlite.specs.State.{State, Executes}
use Rattle.sqlite.proofs.Callers.{IsPlain, command_of}
use Rattle.file_schema.specs.Tables.{schema}
use Rattle.file_schema.specs.Parts.{HoldParts, row_shown, with_rows, without}
use Rattle.file_schema.specs.Shapes.{over, plainly, equals}
use Rattle.file_schema.specs.Plain.{IsPlainTable}
use Rattle.file_schema.proofs.Generic.{updates}
use Rattle.file_schema.proofs.Writes.{AreNumbered, updates_one, misses_keyed}
use Rattle.file_schema.proofs.Parts.{others_from, after_write, row_put, numbered_tree, all_numbered, rows_without}
use Rattle.file_rows.specs.Tables.{Tables, parts, Holds}
use Rattle.file_rows.specs.Changes.{IsInside, Changes}
use Rattle.file_writes.proofs.Found.{found_one, found_none}

module _ (at : ℕ) (table : Table) (is : IsPlainTable schema at table) (sql : List ℕ) (plain : IsPlain (understood schema sql)) (old new : State) (inside : IsInside old) (limit : new.step_limit ≡ old.step_limit)
    {A : Type 0} (row : A → Row) (id_of : A → ℕ) (keyed : (a : A) → rowid (row a) ≡ Int (pos (id_of a))) (field : Tables → List A)
    (held_at : (t : Tables) → Holds old.now.trees t → IsPermutation (map row (field t)) (map (row_shown schema table.tree) (old.now.trees table.tree)))
    (trees : (t : Tables) → map (λ t. t.tree) schema.tables ≡ map (λ p. p.tree) (parts t))
    (project : List Term) (command : command_of (understood schema sql) ≡ Update at (plainly (over table.tree (equals (col 1 0) (col 0 0) ∷ []) project []))) where
  numbers : (t : Tables) → Holds old.now.trees t → AreNumbered (old.now.trees table.tree)
  numbers t held = numbered_tree (row_shown schema table.tree) (λ r. refl) (old.now.trees table.tree) (map row (field t)) (all_numbered row id_of keyed (field t)) (held_at t held)

  -- no row: so no value of the table has the id
  pub no_row_of : (id : ℕ) (more : Row) → Executes sql (Int (pos id) ∷ more) old new (Ok 0) → (t : Tables) → Holds old.now.trees t → filter (λ a. id_of a == id) (field t) ≡ []
  no_row_of id more h t held =
      let it = misses_keyed schema at table is sql plain old new inside.known inside.inside limit (numbers t held) project command (pos id) more h in
      found_none row id_of keyed id (row_shown schema table.tree) (λ r. refl) (old.now.trees table.tree) (field t) (held_at t held) it.2

  -- one row: so one value of the table has it
  pub one_row_of : (id : ℕ) (more source : Row) → ((r : Row) → eval_all project ((Int (pos id) ∷ more) ∷ r ∷ []) ≡ rowid r ∷ rowid r ∷ source) → Executes sql (Int (pos id) ∷ more) old new (Ok 1) → (t : Tables) → Holds old.now.trees t
      → (a : A) × (filter (λ b. id_of b == id) (field t) ≡ a ∷ [])
  one_row_of id more source shape h t held =
      let it = updates_one schema at table is sql plain old new inside.known inside.inside limit (numbers t held) project command (pos id) more (λ _. source) shape h in
      let one = found_one row id_of keyed id (row_shown schema table.tree) (λ r. refl) (old.now.trees table.tree) (field t) (held_at t held) it.0 it.1 in
      (one.0, one.1)

  -- one row, of which some columns stay: what is made of the value that stood
  pub updates_part : (id : ℕ) (more : Row) (source : Row → Row) → ((r : Row) → eval_all project ((Int (pos id) ∷ more) ∷ r ∷ []) ≡ rowid r ∷ rowid r ∷ source r) → (made : A → A)
      → ((a : A) (r : Row) → row_shown schema table.tree r ≡ row a → id_of a ≡ id → (rest : Row) × (cast_row table (Int (pos id) ∷ source r) ≡ Int (pos id) ∷ rest) × (row_shown schema table.tree (Int (pos id) ∷ rest) ≡ row (made a)))
      → Executes sql (Int (pos id) ∷ more) old new (Ok 1) → (change : Tables → Tables)
      → ((t : Tables) (a : A) → filter (λ b. id_of b == id) (field t) ≡ a ∷ [] → parts (change t) ≡ with_rows table.tree (λ _. map row (made a ∷ filter (λ b. not (id_of b == id)) (field t))) (parts t)) → Changes change old new
  updates_part id more source shape made turned h change same =
      let did = updates schema at table is sql plain (Int (pos id) ∷ more) old new inside.known inside.inside limit (plainly (over table.tree (equals (col 1 0) (col 0 0) ∷ []) project [])) command 1 h in
      let tree = old.now.trees table.tree in
      let next = new.now.trees in
      let show = row_shown schema table.tree in
      record {
        known = did.2.2.known;
        inside = did.2.2.shows.mode;
        committed = did.2.2.shows.committed_is;
        listed = λ _. did.2.2.listed;
        holds = λ t held.
            let it = updates_one schema at table is sql plain old new inside.known inside.inside limit (numbers t held) project command (pos id) more source shape h in
            let one = found_one row id_of keyed id show (λ r. refl) tree (field t) (held_at t held) it.0 it.1 in
            let rest = turned one.0 it.0 one.2 one.3 in
            let others = filter (λ b. not (id_of b == id)) (field t) in
            let put : IsPermutation (row (made one.0) ∷ without (pos id) (map row (field t))) (map show (next table.tree)) =
            row_put show (pos id) (λ r. refl) (Int (pos id) ∷ rest.0) (row (made one.0)) tree (next table.tree) (map row (field t)) rest.2 (it.2 rest.0 rest.1).1 (held_at t held) in
            let now : IsPermutation (map row (made one.0 ∷ others)) (map show (next table.tree)) = subst (λ l. IsPermutation (row (made one.0) ∷ l) (map show (next table.tree))) (sym (rows_without row id_of keyed id (field t))) put in
            subst (HoldParts schema next) (sym (same t one.0 one.1))
            (after_write schema table.tree (λ _. map row (made one.0 ∷ others)) old.now.trees next (λ rows holds. now) (parts t) (others_from table.tree old.now.trees next schema.tables (parts t) (trees t) did.2.2.applied.tables) held);
      }
