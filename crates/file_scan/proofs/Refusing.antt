-- A row that isn't taken is one of the table's.
use Rattle.std.proofs.Common.{◌≡◌, ◌≢◌, ℕ, zero, suc, List, [], ◌∷◌, ◌++◌, map, Some, Ok, IsTrue, refl, sym, ap, subst, ◌∙◌, arith, append_assoc}
use Rattle.std.specs.List.{Contains}
use Rattle.std.proofs.lemmas.List.Sorted.{Contains-permutation}
use Rattle.sqlite_value.specs.Order.{Row}
use Rattle.sqlite_resolve.specs.declared.compiled.Compiled.{Compiled}
use Rattle.sqlite_schema.specs.declared.command.Command.TheVariants.{Select}
use Rattle.sqlite_schema.specs.declared.schema.Schema.{Schema}
use Rattle.sqlite.specs.Clock.{timed}
use Rattle.sqlite.specs.Listing.{understood}
use Rattle.sqlite.specs.State.{State, IsUnchanged, Begins}
use Rattle.sqlite.proofs.Callers.{EndsIn, begins_shown}
use Rattle.file_schema.specs.Tables.{schema}
use Rattle.file_schema.specs.Parts.{row_shown}
use Rattle.file_schema.specs.Shapes.{command_in, over, plainly}
use Rattle.file_reads.specs.Damage.{HasMeaning, IsDamaged}
use Rattle.file_reads.specs.Select.{IsSelectIn}
use Rattle.file_reads.proofs.Loads.{loads}

pub unchanged : (s : State) → IsTrue s.is_open → IsUnchanged s s
unchanged s o = (record { was_open = o; is_open = o; now_is = refl; committed_is = refl; mode = refl }, record { changes = refl; last_rowid = refl }, refl)

in_middle : (xs : List Row) (x : Row) (ys : List Row) → Contains (xs ++ x ∷ ys) x
in_middle [] x ys = (zero, omega arith, refl)
in_middle (y ∷ xs) x ys = let there = in_middle xs x ys in (suc there.0, omega (arith, there.1), there.2)

-- a text that showed a row has a meaning
pub begins_meaning : (sql : List ℕ) (s : State) (rows : List Row) → Begins sql [] s rows → HasMeaning s.now.schema sql
unfolding Begins
begins_meaning sql s rows h = (h.0, h.1.is)

pub damaged_in : {T : Type 0} (as_row : T → Row) (fits : T → Type 0) {of : Schema} (sql : List ℕ) (tree : ℕ) (is : IsSelectIn of sql tree []) (s : State) → s.now.schema ≡ of → IsTrue s.is_open → (rows : List Row) (row : Row)
    → Begins sql [] s (rows ++ row ∷ []) → ((w : T) → fits w → row ≢ as_row w) → IsDamaged as_row fits (map (row_shown schema tree) (s.now.trees tree))
damaged_in as_row fits sql tree is s known o rows row h bad =
    let command : (c : Compiled) → understood s.now.schema sql ≡ Ok c → c.command ≡ Select (plainly (over tree [] is.project is.order)) is.names = λ c at.
    (let both : Some c.command ≡ Some (Select (plainly (over tree [] is.project is.order)) is.names) = sym (ap command_in at) ∙ ap (λ k. command_in (understood k sql)) known ∙ is.asks.0 in cc) in
    let whole = begins_shown sql [] s s (rows ++ row ∷ []) h (unchanged s o) (λ c db it source. subst (λ k. EndsIn k db (timed [] c.formats it.now)) (sym (command c it.is)) tt) in
    let all = loads sql tree is s s known ((rows ++ row ∷ []) ++ whole.0) whole.1 in
    (row, Contains-permutation _ _ row all (subst (λ l. Contains l row) (sym (append_assoc rows (row ∷ []) whole.0)) (in_middle rows row whole.0)), bad)
