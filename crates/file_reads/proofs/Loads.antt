-- What a SELECT of all columns shows, and that it changes nothing.
use Rattle.std.proofs.Common.{◌≡◌, ◌⊎◌, inl, inr, ℕ, suc, List, [], ◌∷◌, length, map, filter, true, cond, Ok, Err, Result, IfOk, Option, Some, None, refl, ap, sym, subst, ◌∙◌, arith}
use Rattle.std.specs.List.Sorted.{IsPermutation}
use Rattle.std.proofs.lemmas.List.Sorted.{IsPermutation-sym}
use Rattle.sqlite_value.specs.declared.value.Value.{Value}
use Rattle.sqlite_value.specs.Order.{Row, column}
use Rattle.sqlite_sql.specs.Term.{Term, eval_all}
use Rattle.sqlite_schema.specs.declared.command.Command.{Command}
use Rattle.sqlite_schema.specs.declared.command.Command.TheVariants.{Select}
use Rattle.sqlite_schema.specs.declared.command.Returning.{Returning}
use Rattle.sqlite_schema.specs.declared.schema.Schema.{Schema}
use Rattle.sqlite_resolve.specs.declared.compiled.Compiled.{Compiled}
use Rattle.sqlite_resolve.specs.declared.error.CompileError.{CompileError}
use Rattle.sqlite.specs.Effect.{Database, IsDatabase, Reads}
use Rattle.sqlite.specs.declared.error.Error.{Error}
use Rattle.sqlite.specs.Listing.{understood}
use Rattle.sqlite.specs.State.{State, Shown, ShowsRows, KeepsCommit, IsNotRun, FailsToQuery, FailsToShow, IsTooLate}
use Rattle.sqlite.proofs.Callers.{IsPlain, command_of, reads_as}
use Rattle.file_schema.proofs.WholeLemmas.{not_run}
use Rattle.file_schema.specs.Tables.{schema}
use Rattle.file_schema.specs.Parts.{row_shown}
use Rattle.file_schema.specs.Shapes.{command_in, over, plainly}
use Rattle.file_schema.proofs.Answered.{passes, answered}
use Rattle.file_schema.proofs.Generic.{asked}
use Rattle.file_rows.specs.Tables.{Holds}
use Rattle.file_rows.specs.Changes.{IsInside, Changes}
use Rattle.file_reads.specs.Damage.{HasMeaning, IsForReading}
use Rattle.file_reads.specs.Select.{IsSelectIn}

-- ---- a row that is read column by column

-- the row has these columns from a place on
abbrev pub AreColumns : ℕ → Row → Row → Type 0
AreColumns at r [] = Unit {0}
AreColumns at r (x ∷ xs) = (column r at ≡ x) × AreColumns (suc at) r xs

later : (at : ℕ) (y : Value) (r xs : Row) → AreColumns (suc at) (y ∷ r) xs → AreColumns at r xs
later at y r [] h = tt
later at y r (x ∷ xs) h = (h.0, later (suc at) y r xs h.1)

pub is_row : (r xs : Row) → length r ≡ length xs → AreColumns 0 r xs → r ≡ xs
is_row [] [] len h = refl
is_row [] (x ∷ xs) len h = absurd (omega arith)
is_row (y ∷ r) [] len h = absurd (omega arith)
is_row (y ∷ r) (x ∷ xs) len h = let here : y ≡ x = h.0 in let rest = is_row r xs (omega arith) (later 0 y r xs h.1) in cc

-- ---- all rows of a table

has_meaning : (r : Result Compiled CompileError) (k : Command) → command_in r ≡ Some k → (c : Compiled) × (r ≡ Ok c)
has_meaning (Ok c) k h = (c, refl)
has_meaning (Err e) k h = absurd (cc)

pub stands : {s : Schema} (sql : List ℕ) (tree : ℕ) (test : List Term) → IsSelectIn s sql tree test → HasMeaning s sql
stands {s} sql tree test is = has_meaning (understood s sql) (Select (plainly (over tree test is.project is.order)) is.names) is.asks.0

keep_all : (rows : List Row) → filter (passes [] []) rows ≡ rows
keep_all [] = refl
keep_all (r ∷ rows) = ap (λ l. r ∷ l) (keep_all rows)

map_same : (f g : Row → Row) → ((r : Row) → f r ≡ g r) → (rows : List Row) → map f rows ≡ map g rows
map_same f g same [] = refl
map_same f g same (r ∷ rows) = rw (same r, map_same f g same rows)

-- what it reads of a database is what the table shows of the rows that pass
shows_those : {s : Schema} (sql : List ℕ) (tree : ℕ) (test : List Term) (is : IsSelectIn s sql tree test) (db : Database) (params : Row) (rows : List Row)
    → Reads (Select (plainly (over tree test is.project is.order)) is.names) db params rows → IsPermutation (map (row_shown schema tree) (filter (passes test params) (db.trees tree))) rows
shows_those sql tree test is db params rows read =
    let left = filter (passes test params) (db.trees tree) in
    subst (λ l. IsPermutation l rows) (map_same (λ (r : Row). eval_all is.project (params ∷ r ∷ [])) (row_shown schema tree) (is.shows params) left) (answered db tree test is.project is.order params rows read)

-- where there is no test, it is all that the table shows
pub shows_all : {s : Schema} (sql : List ℕ) (tree : ℕ) (is : IsSelectIn s sql tree []) (db : Database) (rows : List Row) → Reads (Select (plainly (over tree [] is.project is.order)) is.names) db [] rows → IsPermutation rows (map (row_shown schema tree) (db.trees tree))
shows_all sql tree is db rows read =
    IsPermutation-sym _ _ (subst (λ l. IsPermutation (map (row_shown schema tree) l) rows) (keep_all (db.trees tree)) (shows_those sql tree [] is db [] rows read))

pub command_is : {s : Schema} (sql : List ℕ) (tree : ℕ) (test : List Term) (is : IsSelectIn s sql tree test) → command_of (understood s sql) ≡ Select (plainly (over tree test is.project is.order)) is.names
command_is {s} sql tree test is = asked (understood s sql) _ is.asks.0

pub selects : {s : Schema} (sql : List ℕ) (tree : ℕ) (test : List Term) → IsSelectIn s sql tree test → (params : Row) (old new : State) → old.now.schema ≡ s → (rows : List Row) → Shown sql params old new rows
    → IsPermutation (map (row_shown schema tree) (filter (passes test params) (old.now.trees tree))) rows
selects {s} sql tree test is params old new known rows h = shows_those sql tree test is old.now params rows (reads_as sql params old new s known _ (command_is sql tree test is) is.asks.1 is.unlisted rows h)

pub loads : {s : Schema} (sql : List ℕ) (tree : ℕ) → IsSelectIn s sql tree [] → (old new : State) → old.now.schema ≡ s → (rows : List Row) → Shown sql [] old new rows → IsPermutation rows (map (row_shown schema tree) (old.now.trees tree))
loads sql tree is old new known rows h =
    IsPermutation-sym _ _ (subst (λ l. IsPermutation (map (row_shown schema tree) l) rows) (keep_all (old.now.trees tree)) (selects sql tree [] is [] old new known rows h))

-- a SELECT changes nothing
pub unchanged : (sql : List ℕ) (params : Row) (old new : State) → IsPlain (understood schema sql) → old.now.schema ≡ schema → (rows : List Row) → Shown sql params old new rows → new.now ≡ old.now
unfolding Shown
unchanged sql params old new plain known rows h =
    let none = (subst IsPlain (ap (λ s. understood s sql) (sym known) ∙ h.1.is) plain).0 in
    let it = subst (ShowsRows old new sql h.0 _ rows) none h.2 in
    it.3.0.now_is

-- inside a transaction over the schema it leaves all as it is
pub still_inside : (sql : List ℕ) (params : Row) (old new : State) → IsPlain (understood schema sql) → IsInside old → (rows : List Row) → Shown sql params old new rows → Changes (λ t. t) old new
unfolding Shown
still_inside sql params old new plain at rows h =
    let none = (subst IsPlain (ap (λ s. understood s sql) (sym at.known) ∙ h.1.is) plain).0 in
    let it = subst (ShowsRows old new sql h.0 _ rows) none h.2 in
    let same = it.3.0 in
    record {
      known = ap (λ (d : Database). d.schema) same.now_is ∙ at.known;
      inside = same.mode ∙ at.inside;
      committed = same.committed_is;
      listed = λ d. subst IsDatabase (sym same.now_is) d;
      holds = λ t held. subst (λ (d : Database). Holds d.trees t) (sym same.now_is) held;
    }

-- ---- a query inside a transaction keeps the last commit, whatever its text

shows_keeps : (old new : State) (sql : List ℕ) (c : Compiled) (params : Row) (rows : List Row) (r : Option Returning) → old.in_transaction ≡ true → ShowsRows old new sql c params rows r → KeepsCommit old new
shows_keeps old new sql c params rows None inside h = record { was_open = λ _. h.3.0.was_open; committed = λ _. h.3.0.committed_is }
shows_keeps old new sql c params rows (Some what) inside h = record { was_open = λ _. h.1.shown.was_open; committed = λ _. h.1.shown.committed_is ∙ ap (λ b. cond b old.committed new.now) inside }

pub shown_keeps : (old new : State) (sql : List ℕ) (params : Row) (rows : List Row) → old.in_transaction ≡ true → Shown sql params old new rows → KeepsCommit old new
unfolding Shown
shown_keeps old new sql params rows inside h = shows_keeps old new sql h.0 _ rows h.0.returning inside h.2

-- one that only reads keeps it outside of one too
pub reading_keeps : (old new : State) (sql : List ℕ) (params : Row) (rows : List Row) → IsForReading old.now.schema sql → Shown sql params old new rows → KeepsCommit old new
unfolding Shown
reading_keeps old new sql params rows reads h =
    let it = subst (ShowsRows old new sql h.0 _ rows) (reads h.0 h.1.is) h.2 in
    record { was_open = λ _. it.3.0.was_open; committed = λ _. it.3.0.committed_is }

fails_keeps : (old new : State) (sql : List ℕ) (c : Compiled) (params : Row) (e : Error) (r : Option Returning) → FailsToShow old new sql c params e r → KeepsCommit old new
fails_keeps old new sql c params e None h = record { was_open = λ _. h.3.0.was_open; committed = λ _. h.3.0.committed_is }
fails_keeps old new sql c params e (Some what) (inl same) = record { was_open = λ _. same.1.0.was_open; committed = λ _. same.1.0.committed_is }
fails_keeps old new sql c params e (Some what) (inr fails) = record { was_open = fails.3.was_open; committed = λ o. (fails.3.undone o).1 }

pub failed_keeps : (old new : State) (sql : List ℕ) (params : Row) (e : Error) → FailsToQuery sql params old new e ⊎ IsTooLate sql params old new e → KeepsCommit old new
unfolding FailsToQuery
failed_keeps old new sql params e (inl (inl h)) = not_run old new sql params e h
failed_keeps old new sql params e (inl (inr h)) = fails_keeps old new sql h.0 _ e h.0.returning h.2
failed_keeps old new sql params e (inr h) = record { was_open = λ _. h.5.0.was_open; committed = λ _. h.5.0.committed_is }

pub if_ok : {T E : Type 0} (r : Result T E) (P Q : T → Type 0) → IfOk r P → ((x : T) → P x → Q x) → IfOk r Q
if_ok (Ok x) P Q h k = k x h
if_ok (Err e) P Q h k = tt
