-- What a CREATE TABLE and a CREATE INDEX leave.
use Rattle.std.proofs.Common.{◌≡◌, ℕ, List, [], true, false, cond, Ok, None, Some, sym, ap, subst, ◌∙◌}
use Rattle.std.specs.List.{slice_get}
use Rattle.sqlite_trees.specs.Tree.{Trees}
use Rattle.sqlite_schema.specs.declared.schema.Schema.{Schema}
use Rattle.sqlite_schema.specs.declared.schema.Table.{Table}
use Rattle.sqlite_schema.specs.declared.schema.Index.{Index}
use Rattle.sqlite_schema.specs.declared.command.Command.TheVariants.{CreateTable, CreateIndex}
use Rattle.sqlite_catalog.specs.Change.{KeepsRows}
use Rattle.sqlite.specs.Compile.{table_defined_by, index_defined_by}
use Rattle.sqlite.specs.Change.{created, indexed, next_tree}
use Rattle.sqlite.specs.Effect.{Database, IsDatabase}
use Rattle.sqlite.specs.Does.{Tally, lacks_sequence}
use Rattle.sqlite.specs.Listing.{understood}
use Rattle.sqlite.specs.State.{State, Writes, Executes}
use Rattle.sqlite.proofs.Callers.{IsPlain, command_of, statement_of, runs_as}
use Rattle.file_schema.proofs.Generic.{went, same_value}

pub creates : (schema next : Schema) (text : List ℕ) (table : Table) → command_of (understood schema text) ≡ CreateTable → statement_of text (understood schema text) ≡ text → table_defined_by text ≡ Ok table → IsPlain (understood schema text)
    → created schema table ≡ next → lacks_sequence next ≡ false → (old new : State) → old.now.schema ≡ schema → old.in_transaction ≡ true → (count : ℕ) → Executes text [] old new (Ok count)
    → (new.now.schema ≡ next) × (new.now.trees (next_tree schema) ≡ []) × KeepsRows schema.tables old.now.trees new.now.trees × (new.in_transaction ≡ true) × (new.committed ≡ old.committed) × IsDatabase new.now
creates schema next text table command whole defines plain makes counted old new has inside count h =
    let w = subst (λ t. Writes old new None CreateTable t [] count) whole (runs_as text [] old new schema has CreateTable command plain count h) in
    let all = went w.changed in
    let first = went all.1 in
    let made = first.1 in
    let both : Ok made.table ≡ Ok table = sym made.defined ∙ defines in
    let same : made.table ≡ table = cc in
    let now_schema : first.0.schema ≡ next = made.is ∙ ap (λ s. created s made.table) has ∙ ap (created schema) same ∙ makes in
    let bare : lacks_sequence first.0.schema ≡ false = ap lacks_sequence now_schema ∙ counted in
    let now : new.now ≡ first.0 = ap (λ (p : Tally × Database). p.1) (same_value all.2) ∙ same_value (rw bare at first.2) in
    let trees : new.now.trees ≡ first.0.trees = ap (λ (d : Database). d.trees) now in (
      ap (λ (d : Database). d.schema) now ∙ now_schema,
      ap (λ (t : Trees). t (next_tree schema)) trees ∙ subst (λ s. first.0.trees (next_tree s) ≡ []) has made.empty,
      subst (KeepsRows schema.tables old.now.trees) (sym trees) (subst (λ s. KeepsRows s.tables old.now.trees first.0.trees) has made.others),
      w.shown.mode ∙ inside,
      w.shown.committed_is ∙ ap (λ b. cond b old.committed new.now) inside,
      w.sound,
    )

pub indexes : (schema next : Schema) (text : List ℕ) (at : ℕ) (table : Table) (index : Index) → command_of (understood schema text) ≡ CreateIndex at → statement_of text (understood schema text) ≡ text → slice_get schema.tables at ≡ Some table
    → index_defined_by table text ≡ Ok index → IsPlain (understood schema text) → indexed schema table index ≡ next → (old new : State) → old.now.schema ≡ schema → old.in_transaction ≡ true → (count : ℕ) → Executes text [] old new (Ok count)
    → (new.now.schema ≡ next) × KeepsRows schema.tables old.now.trees new.now.trees × (new.in_transaction ≡ true) × IsDatabase new.now
indexes schema next text at table index command whole stands defines plain makes old new has inside count h =
    let w = subst (λ t. Writes old new None (CreateIndex at) t [] count) whole (runs_as text [] old new schema has (CreateIndex at) command plain count h) in
    let place : slice_get old.now.schema.tables at ≡ Some table = ap (λ (s : Schema). slice_get s.tables at) has ∙ stands in
    let all = went (rw place at w.changed) in
    let made = all.1 in
    let both : Ok made.index ≡ Ok index = sym made.defined ∙ defines in
    let same : made.index ≡ index = cc in
    let now_schema : all.0.schema ≡ next = made.is ∙ ap (λ s. indexed s table made.index) has ∙ ap (indexed schema table) same ∙ makes in
    let now : new.now ≡ all.0 = ap (λ (p : Tally × Database). p.1) (same_value all.2) in
    let trees : new.now.trees ≡ all.0.trees = ap (λ (d : Database). d.trees) now in (
      ap (λ (d : Database). d.schema) now ∙ now_schema,
      subst (KeepsRows schema.tables old.now.trees) (sym trees) (subst (λ s. KeepsRows s.tables old.now.trees all.0.trees) has made.rows),
      w.shown.mode ∙ inside,
      w.sound,
    )
