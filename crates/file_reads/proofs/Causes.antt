-- Why rows aren't read: what is known of a query that failed, and of rows that are damaged.
use Rattle.std.proofs.Common.{◌≡◌, ◌⊎◌, inl, inr, ℕ, zero, suc, Bool, true, false, cond, List, [], ◌∷◌, map, filter, Option, Some, None, Result, Ok, Err, IfErr, IfOk, OnOk, IfSome, sym, subst, ap, ◌∙◌, arith}
use Rattle.std.specs.List.{All, Contains}
use Rattle.std.specs.List.Sorted.{IsPermutation}
use Rattle.std.proofs.lemmas.List.Sorted.{Contains-permutation, IsPermutation-sym}
use Rattle.std.proofs.lemmas.List.Elements.{All-head, All-tail}
use Rattle.sqlite_value.specs.Order.{Row}
use Rattle.sqlite_trees.specs.declared.error.StoreError.{StoreError}
use Rattle.sqlite_trees.specs.declared.error.StoreError.TheVariants.{OutOfMemory, Io, Corrupt, Full, Broken, Unstorable}
use Rattle.sqlite_sql.specs.Term.{Term}
use Rattle.sqlite_schema.specs.declared.schema.Schema.{Schema}
use Rattle.sqlite_schema.specs.declared.command.Command.{Command}
use Rattle.sqlite_schema.specs.declared.command.Command.TheVariants as does
use Rattle.sqlite_schema.specs.declared.command.Returning.{Returning}
use Rattle.sqlite_resolve.specs.declared.compiled.Compiled.{Compiled}
use Rattle.sqlite_resolve.specs.declared.error.CompileError.{CompileError}
use Rattle.sqlite_resolve.specs.declared.error.CompileError.TheVariants as compile
use Rattle.sqlite_syntax.specs.declared.error.ParseError.TheVariants as parse
use Rattle.sqlite.specs.declared.error.Error.{Error}
use Rattle.sqlite.specs.declared.error.Error.TheVariants.{InvalidQuery}
use Rattle.sqlite.specs.Effect.{Database, RefusesToRead}
use Rattle.sqlite.specs.Listing.{understood}
use Rattle.sqlite.specs.State.{State, Shown, store_error, IsNoStatement, IsNotRun, FailsToShow, FailsToQuery, IsTooLate}
use Rattle.file_schema.specs.declared.error.RowError.{RowError}
use Rattle.file_schema.specs.declared.error.RowError.TheVariants.{Memory, Foreign, Damaged, Store}
use Rattle.file_schema.specs.Failures.{failure_of, meaning_of}
use Rattle.file_schema.specs.Tables.{schema}
use Rattle.file_schema.specs.Parts.{row_shown}
use Rattle.file_rows.specs.Unread.{IsUnread}
use Rattle.file_reads.specs.Damage.{IsDamaged, IsFor, HasMeaning, HasNoMeaning, IsForReading}
use Rattle.file_reads.specs.Select.{IsSelectIn}
use Rattle.file_schema.proofs.Answered.{passes}
use Rattle.file_reads.proofs.Loads.{stands, selects}

-- ---- one cause for another

pub unread_for : (F D E : Type 0) → (D → E) → (e : RowError) → IsUnread D e → IsFor F E e
unread_for F D E k Memory h = tt
unread_for F D E k Foreign h = absurd h
unread_for F D E k Damaged h = k h
unread_for F D E k Store h = absurd h

pub for : (F G D E : Type 0) → (F → G) → (D → E) → (e : RowError) → IsFor F D e → IsFor G E e
for F G D E f k Memory h = tt
for F G D E f k Foreign h = f h
for F G D E f k Damaged h = k h
for F G D E f k Store h = tt

pub on_ok : {T E : Type 0} (r : Result T E) (P : T → Type 0) (Q : Type 0) → IfOk r P → ((x : T) → P x → Q) → OnOk r Q
on_ok (Ok x) P Q h k = k x h
on_ok (Err e) P Q h k = tt

-- a query that shows rows has a meaning
pub means_something : (sql : List ℕ) (params : Row) (old new : State) (rows : List Row) → Shown sql params old new rows → HasMeaning old.now.schema sql
unfolding Shown
means_something sql params old new rows h = (h.0, h.1.is)

pub if_err : {T E : Type 0} (r : Result T E) (P Q : E → Type 0) → IfErr r P → ((e : E) → P e → Q e) → IfErr r Q
if_err (Ok x) P Q h k = tt
if_err (Err e) P Q h k = k e h

-- ---- a query that failed

-- a text that isn't understood has no meaning, or memory was refused
of_meaning : (F D : Type 0) → F → (fault : CompileError) → IsFor F D (meaning_of fault)
of_meaning F D f compile.OutOfMemory = tt
of_meaning F D f (compile.Parse parse.OutOfMemory) = tt
of_meaning F D f fault = f

of_store : (F D : Type 0) (cause : StoreError) → IsFor F D (failure_of (store_error cause))
of_store F D OutOfMemory = tt
of_store F D Io = tt
of_store F D Corrupt = tt
of_store F D Full = tt
of_store F D Broken = tt
of_store F D Unstorable = tt

told : (F D : Type 0) (e d : Error) → e ≡ d → IsFor F D (failure_of d) → IsFor F D (failure_of e)
told F D e d is h = subst (λ x. IsFor F D (failure_of x)) (sym is) h

refused : (s : State) (sql : List ℕ) (params : Row) (e : Error) (D : Type 0) → IsNoStatement s sql params e → IsFor (HasNoMeaning s.now.schema sql) D (failure_of e)
refused s sql params e D (inl h) = told (HasNoMeaning s.now.schema sql) D e _ h.2 (of_meaning (HasNoMeaning s.now.schema sql) D (λ c is. absurd (let both = sym h.1 ∙ is in cc)) h.0)
refused s sql params e D (inr (c, is, inl h)) = told (HasNoMeaning s.now.schema sql) D e _ h.1 tt
refused s sql params e D (inr (c, is, inr (inl h))) = told (HasNoMeaning s.now.schema sql) D e _ h.1 tt
refused s sql params e D (inr (c, is, inr (inr h))) = told (HasNoMeaning s.now.schema sql) D e _ h.1 tt

not_run : (old new : State) (sql : List ℕ) (params : Row) (e : Error) (D : Type 0) → IsNotRun old new sql params e → IsFor (HasNoMeaning old.now.schema sql) D (failure_of e)
unfolding IsNotRun
not_run old new sql params e D (inl h) = refused old sql params e D h.0
not_run old new sql params e D (inr h) = told (HasNoMeaning old.now.schema sql) D e _ h.1 (of_store (HasNoMeaning old.now.schema sql) D h.0)

unread_query : (F D : Type 0) (limit : Option ℕ) (command : Command) (db : Database) (params : Row) (e : Error) → RefusesToRead limit command db params e → IsFor F D (failure_of e)
unread_query F D limit (does.Select q names) db params e (inl h) = told F D e _ h.0 tt
unread_query F D limit (does.Select q names) db params e (inr (inl h)) = told F D e _ h.0 tt
unread_query F D limit (does.Select q names) db params e (inr (inr h)) = told F D e _ h.0 tt
unread_query F D limit (does.Rows values width names) db params e h = told F D e _ h.0 tt
unread_query F D limit command db params e h = told F D e InvalidQuery h tt

unshown : (F D : Type 0) (old new : State) (sql : List ℕ) (c : Compiled) (params : Row) (e : Error) (r : Option Returning) → r ≡ None → FailsToShow old new sql c params e r → IsFor F D (failure_of e)
unshown F D old new sql c params e None none h = unread_query F D old.step_limit c.command h.0 params e h.2
unshown F D old new sql c params e (Some what) none h = absurd (cc)

-- a query that reads and fails says 60 only where its text has no meaning, and never 62
pub failed : (old new : State) (sql : List ℕ) (params : Row) (e : Error) (D : Type 0) → IsForReading old.now.schema sql → FailsToQuery sql params old new e ⊎ IsTooLate sql params old new e → IsFor (HasNoMeaning old.now.schema sql) D (failure_of e)
unfolding FailsToQuery
failed old new sql params e D reads (inl (inl h)) = not_run old new sql params e D h
failed old new sql params e D reads (inl (inr h)) = unshown (HasNoMeaning old.now.schema sql) D old new sql h.0 _ e h.0.returning (reads h.0 h.1.is) h.2
failed old new sql params e D reads (inr h) = told (HasNoMeaning old.now.schema sql) D e _ h.4 tt

-- ---- a table of a shop

-- its SELECTs have a meaning
pub lacks_none : {of : Schema} (sql : List ℕ) (tree : ℕ) (test : List Term) → IsSelectIn of sql tree test → (s : Schema) → s ≡ of → HasNoMeaning s sql → ⊥
lacks_none sql tree test is s known none = let meant = stands sql tree test is in none meant.0 (ap (λ k. understood k sql) known ∙ meant.1)

-- what passes a test stood there before
behind : (x r : Row) (xs : List Row) → Contains xs r → Contains (x ∷ xs) r
behind x r xs (k, within, is) = (suc k, omega (arith, within), is)

with_first : (x r : Row) (xs ys : List Row) → (Contains xs r → Contains ys r) → Contains (x ∷ xs) r → Contains (x ∷ ys) r
with_first x r xs ys more (zero, within, is) = (zero, omega arith, is)
with_first x r xs ys more (suc k, within, is) = behind x r ys (more (k, omega (arith, within), is))

still_there : (show : Row → Row) (test : Row → Bool) (tree : List Row) (r : Row) → Contains (map show (filter test tree)) r → Contains (map show tree) r
still_there show test [] r h = h
still_there show test (x ∷ xs) r h =
    let left = filter test xs in
    let rest : Contains (map show left) r → Contains (map show xs) r = still_there show test xs r in
    elim (test x) as (λ b. Contains (map show (cond b (x ∷ left) left)) r → Contains (show x ∷ map show xs) r) [
      | true ↦ with_first (show x) r (map show left) (map show xs) rest
      | false ↦ λ there. behind (show x) r (map show xs) (rest there)
    ] h

-- rows that are shown are some of those that stand, so one of these is damaged
pub refuses : {T : Type 0} (as_row : T → Row) (fits : T → Type 0) {s : Schema} (sql : List ℕ) (tree : ℕ) (test : List Term) → IsSelectIn s sql tree test → (params : Row) (old new : State) → old.now.schema ≡ s → (e : RowError)
    → IsFor (HasNoMeaning old.now.schema sql) ((rows : List Row) × Shown sql params old new rows × IsDamaged as_row fits rows) e
    → IsFor ⊥ (IsDamaged as_row fits (map (row_shown schema tree) (old.now.trees tree))) e
refuses as_row fits sql tree test is params old new known e h =
    for (HasNoMeaning old.now.schema sql) ⊥ _ _ (lacks_none sql tree test is old.now.schema known)
    (λ (found : (rows : List Row) × Shown sql params old new rows × IsDamaged as_row fits rows).
    let alike = IsPermutation-sym _ _ (selects sql tree test is params old new known found.0 found.1) in
    let there = Contains-permutation found.0 (map (row_shown schema tree) (filter (passes test params) (old.now.trees tree))) found.2.0 alike found.2.1 in
    (found.2.0, still_there (row_shown schema tree) (passes test params) (old.now.trees tree) found.2.0 there, found.2.2)) e h

-- ---- rows of values within their limits

-- each of them is the row of one
pub is_of_one : {T : Type 0} (as_row : T → Row) (fits : T → Type 0) (all : List T) (r : Row) → All fits all → Contains (map as_row all) r → (w : T) × fits w × (r ≡ as_row w)
is_of_one as_row fits [] r fit (k, within, is) = absurd (omega arith)
is_of_one as_row fits (x ∷ xs) r fit (zero, within, is) = (x, All-head fits x xs fit, sym is)
is_of_one as_row fits (x ∷ xs) r fit (suc k, within, is) = is_of_one as_row fits xs r (All-tail fits x xs fit) (k, omega (arith, within), is)

-- what has no limits is within them
pub free : {T : Type 0} (o : Option T) → IfSome o (λ x. Unit {0})
free None = tt
free (Some x) = tt

-- so none is damaged
pub undamaged : {T : Type 0} (as_row : T → Row) (fits : T → Type 0) (all : List T) (rows : List Row) → All fits all → IsPermutation (map as_row all) rows → IsDamaged as_row fits rows → ⊥
undamaged as_row fits all rows fit alike bad =
    let one = is_of_one as_row fits all bad.0 fit (Contains-permutation rows (map as_row all) bad.0 (IsPermutation-sym _ _ alike) bad.1) in
    bad.2 one.0 one.1 one.2
