-- What an INSERT, an UPDATE and a DELETE leave, of any table of any schema.
use Rattle.std.proofs.Common.{◌≡◌, ◌⊎◌, inl, inr, ℕ, ℤ, List, [], ◌∷◌, ◌++◌, length, ◌/◌, true, false, cond, Some, None, Option, Ok, Err, Result, refl, sym, ap, subst, subst₂, ◌∙◌, append-nil, drop, ◌-◌, unwrap_or}
use Rattle.std.specs.Bool.{MatchBool}
use Rattle.std.specs.Ordering.{is_lt, int_cmp}
use Rattle.sqlite_value.specs.Order.{Row}
use Rattle.sqlite_trees.specs.Tree.{Trees}
use Rattle.sqlite_sql.specs.Term.{Term, eval_all}
use Rattle.sqlite_schema.specs.declared.schema.Schema.{Schema}
use Rattle.sqlite_schema.specs.declared.schema.Table.{Table}
use Rattle.sqlite_schema.specs.declared.schema.Keys.TheVariants.{Enforced}
use Rattle.sqlite_schema.specs.declared.program.Program.{Program}
use Rattle.sqlite_schema.specs.declared.command.Command.{Command}
use Rattle.sqlite_schema.specs.declared.command.Command.TheVariants.{Insert, Update, Delete}
use Rattle.sqlite_schema.specs.declared.command.Source.TheVariants.{Values}
use Rattle.sqlite_resolve.specs.declared.compiled.Compiled.{Compiled}
use Rattle.sqlite_resolve.specs.declared.error.CompileError.{CompileError}
use Rattle.sqlite_rules.specs.Edit.{Edit, edit_of, Applies}
use Rattle.sqlite_rules.specs.Calls.{ids_of}
use Rattle.sqlite_rules.specs.declared.error.Rowids.TheVariants.{Chosen, Given, Above}
use Rattle.sqlite.specs.Effect.{Database, Answers, value_rows}
use Rattle.sqlite.specs.Rows.{Written, Task, Gives, Counts, CountsIn, stamped, count_of, rowids_for, sequence}
use Rattle.sqlite.specs.Does.{Tally, Does, OnRows, WritesRows}
use Rattle.sqlite.specs.Listing.{understood}
use Rattle.sqlite.specs.State.{State, mode_of, Writes, Executes}
use Rattle.sqlite.specs.declared.run.Mode.{Mode}
use Rattle.sqlite.proofs.Callers.{IsPlain, command_of, statement_of, runs_as}
use Rattle.file_schema.specs.Shapes.{command_in}
use Rattle.file_schema.specs.Plain.{IsPlainTable}
use Rattle.file_schema.specs.Writes.{Edits}
use Rattle.file_schema.proofs.Acts.{one_step}

-- a part that gave a value did not stop on the way
pub went : {B E R : Type 0} {b : B} {Stops : E → Type 0} → ((stop : E) × Stops stop × (Ok b ≡ Err stop)) ⊎ R → R
went (inl stopped) = absurd (let e = stopped.2 in cc)
went (inr on) = on

pub same_value : {B E : Type 0} {a b : B} → ◌≡◌ {A = Result B E} (Ok a) (Ok b) → a ≡ b
same_value e = cc

-- what a text asks for is what it compiles to
pub asked : (r : Result Compiled CompileError) (k : Command) → command_in r ≡ Some k → command_of r ≡ k
asked (Ok c) k h = cc
asked (Err e) k h = absurd cc

abbrev task_of : State → Schema → Table → Row → Task
task_of old schema table params = record { limit = old.step_limit; keys = Enforced; schema = schema; table = table; params = params }

abbrev db_of : State → Schema → Database
db_of old schema = record { schema = schema; trees = old.now.trees }

uncounted : (task : Task) (db next : Trees) (counter : Option Row) (top : ℤ) → task.table.is_counted ≡ false → Counts task db counter top (Ok next) → db ≡ next
uncounted task db next counter top none h =
    let e = subst (λ b. MatchBool (cond b (is_lt (int_cmp (count_of counter) top)) false) (CountsIn task db counter top (sequence task.schema) (Ok next)) (Gives db (Ok next))) none h in sym (same_value e)

concluded : (task : Task) (mode : Mode) (command : Command) (db : Trees) (tally : Tally) (after : Database) → OnRows task mode None command db (Ok (tally, after))
    → (w : Written) × WritesRows task db command (Ok w) × (after ≡ record { schema = task.schema; trees = w.trees }) × (tally.rows ≡ Some (length w.rows))
concluded task mode command db tally after h =
    let done = went h in
    let tested = went done.2 in
    let shown = went tested.2 in
    let is = same_value shown.2 in
    (done.0, done.1, ap (λ (p : Tally × Database). p.1) is, ap (λ (p : Tally × Database). p.0.rows) is)

module _ (schema : Schema) (at : ℕ) (table : Table) (is : IsPlainTable schema at table) (sql : List ℕ) (plain : IsPlain (understood schema sql)) (params : Row) (old new : State) (has : old.now.schema ≡ schema)
    (inside : old.in_transaction ≡ true) (limit : new.step_limit ≡ old.step_limit) where
  edits : (w : Trees) (edit : Edit) → edit.table ≡ table → new.now ≡ record { schema = schema; trees = w }
      → Rattle.sqlite_rules.specs.Action.Writes schema Enforced old.now.trees edit (Ok w) → (command : Command) (text : List ℕ) (count : ℕ) → Writes old new None command text params count
      → Edits schema table edit.gone edit.news old new
  edits w edit same now h command text count run =
      let step = one_step schema is.restricts old.now.trees w edit h in
      let news : new.now.trees ≡ w = ap (λ (d : Database). d.trees) now in
      record {
        known = ap (λ (d : Database). d.schema) now;
        applied = subst₂ (λ t d. Applies schema Enforced old.now.trees (record { table = t; gone = edit.gone; news = edit.news }) d) same (sym news) step;
        shows = record { was_open = run.shown.was_open; is_open = run.shown.is_open; now_is = run.shown.now_is; committed_is = run.shown.committed_is ∙ ap (λ b. cond b old.committed new.now) inside; mode = run.shown.mode ∙ inside };
        limit = limit;
        listed = run.sound;
      }

  pub inserts : (terms : List Term) (width : ℕ) → command_of (understood schema sql) ≡ Insert at (Values terms width) → (count : ℕ) → Executes sql params old new (Ok count)
      → (edit : Edit) × (edit ≡ edit_of old.now.trees table [] Chosen 0 (value_rows params width (length terms / width) terms)) × Edits schema table edit.gone edit.news old new
  inserts terms width command count h =
      let w = runs_as sql params old new schema has (Insert at (Values terms width)) command plain count h in
      let text = statement_of sql (understood schema sql) in
      let found = rw is.placed at (subst (λ s. Does old.step_limit (mode_of old) params (record old.now { schema = s }) text None (Insert at (Values terms width)) (Ok (w.tally, new.now))) has w.changed) in
      let done = concluded (task_of old schema table params) (mode_of old) (Insert at (Values terms width)) old.now.trees w.tally new.now found in
      let given = went done.1 in
      let stamp : stamped table params ≡ params = ap (λ ts. params ++ eval_all ts (drop (length params - length table.stamps.formats) params ∷ [])) is.unstamped ∙ append-nil params in
      let rows : given.0 ≡ value_rows params width (length terms / width) terms = given.1.1 ∙ ap (λ p. value_rows p width (length terms / width) terms) stamp in
      let counter = went given.2 in
      let written = went counter.2 in
      let counts = went written.2 in
      let plain_counts : written.0 ≡ counts.0 = uncounted (task_of old schema table params) written.0 counts.0 counter.0 _ is.uncounted counts.1 in
      let edit = edit_of old.now.trees table [] (rowids_for table (count_of counter.0)) 0 given.0 in
      let next : done.0.trees ≡ written.0 = ap (λ (it : Written). it.trees) (same_value counts.2) ∙ sym plain_counts in
      let kind : rowids_for table (count_of counter.0) ≡ Chosen = ap (λ b. cond b (Above (count_of counter.0)) Chosen) is.uncounted in (
        edit,
        ap (λ k. edit_of old.now.trees table [] k 0 given.0) kind ∙ ap (edit_of old.now.trees table [] Chosen 0) rows,
        edits written.0 edit refl (done.2 ∙ ap (λ d. record { schema = schema; trees = d }) next) written.1 (Insert at (Values terms width)) text count w,
      )

  pub deletes : (q : Program) → command_of (understood schema sql) ≡ Delete at q → (count : ℕ) → Executes sql params old new (Ok count)
      → (ids : List Row) × Answers (db_of old schema) q params ids × Edits schema table (ids_of ids) [] old new
  deletes q command count h =
      let w = runs_as sql params old new schema has (Delete at q) command plain count h in
      let text = statement_of sql (understood schema sql) in
      let found = rw is.placed at (subst (λ s. Does old.step_limit (mode_of old) params (record old.now { schema = s }) text None (Delete at q) (Ok (w.tally, new.now))) has w.changed) in
      let done = concluded (task_of old schema table params) (mode_of old) (Delete at q) old.now.trees w.tally new.now found in
      let rows = went done.1 in
      let written = went rows.2 in
      let edit = edit_of old.now.trees table (ids_of rows.0) Given 0 [] in
      let next : done.0.trees ≡ written.0 = ap (λ (it : Written). it.trees) (same_value written.2) in
      (rows.0, rows.1, edits written.0 edit refl (done.2 ∙ ap (λ d. record { schema = schema; trees = d }) next) written.1 (Delete at q) text count w)

  pub updates : (q : Program) → command_of (understood schema sql) ≡ Update at q → (count : ℕ) → Executes sql params old new (Ok count)
      → (rows : List Row) × Answers (db_of old schema) q params rows × ((edit : Edit) × (edit ≡ edit_of old.now.trees table (ids_of rows) Given 1 rows) × Edits schema table edit.gone edit.news old new × (count ≡ length edit.news))
  updates q command count h =
      let w = runs_as sql params old new schema has (Update at q) command plain count h in
      let text = statement_of sql (understood schema sql) in
      let found = rw is.placed at (subst (λ s. Does old.step_limit (mode_of old) params (record old.now { schema = s }) text None (Update at q) (Ok (w.tally, new.now))) has w.changed) in
      let done = concluded (task_of old schema table params) (mode_of old) (Update at q) old.now.trees w.tally new.now found in
      let rows = went done.1 in
      let written = went rows.2 in
      let edit = edit_of old.now.trees table (ids_of rows.0) Given 1 rows.0 in
      let made = same_value written.2 in
      let next : done.0.trees ≡ written.0 = ap (λ (it : Written). it.trees) made in
      let total : count ≡ length edit.news = w.counted ∙ ap (λ o. unwrap_or o 0) done.3 ∙ ap (λ (it : Written). length it.rows) made in
      (rows.0, rows.1, (edit, refl, edits written.0 edit refl (done.2 ∙ ap (λ d. record { schema = schema; trees = d }) next) written.1 (Update at q) text count w, total))
