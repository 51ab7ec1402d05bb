-- Why the store stops while rows are read.
use Rattle.std.proofs.Common.{◌≡◌, inl, inr, ℕ, ◌≤◌, ◌==◌, ◌&&◌, nat_le, Bool, true, false, List, [], ◌++◌, length, Option, Some, None, Result, Ok, Err, IfErr, IsTrue, IsSome, refl, sym, ap, subst, ◌∙◌, arith}
use Rattle.std.proofs.lemmas.Bool.Decides.{nat_tests}
use Rattle.std.proofs.lemmas.List.{length-append, length-map}
use Rattle.std.proofs.lemmas.List.Sorted.{length_permutation}
use Rattle.sqlite_disk.specs.Disk.{MoreFaults}
use Rattle.sqlite_value.specs.Order.{Row}
use Rattle.sqlite_trees.specs.declared.error.StoreError.{StoreError}
use Rattle.sqlite_trees.specs.declared.error.StoreError.TheVariants.{OutOfMemory, Io, Corrupt, Full, Broken, Unstorable}
use Rattle.sqlite_schema.specs.declared.command.Command.TheVariants.{Select}
use Rattle.sqlite_schema.specs.declared.command.Returning.{Returning}
use Rattle.sqlite_schema.specs.declared.schema.Schema.{Schema}
use Rattle.sqlite_resolve.specs.declared.compiled.Compiled.{Compiled}
use Rattle.sqlite_resolve.specs.declared.error.CompileError.{CompileError}
use Rattle.sqlite_resolve.specs.declared.error.CompileError.TheVariants as compile
use Rattle.sqlite_syntax.specs.declared.error.ParseError.TheVariants as parse
use Rattle.sqlite.specs.Clock.{timed}
use Rattle.sqlite.specs.Effect.{Database, RefusesToRead}
use Rattle.sqlite.specs.declared.error.Error.{Error}
use Rattle.sqlite.specs.Given.{IsPlain}
use Rattle.sqlite.specs.Listing.{understood, reads_listing, IsSourceOf}
use Rattle.sqlite.specs.State.{State, IsUnchanged, HasCause, Survives, IsNoStatement, IsNotRun, FailsToShow, FailsToQuery, Begins, store_error}
use Rattle.sqlite.proofs.Callers.{EndsIn, begins_shown}
use Rattle.file_schema.specs.declared.error.RowError.{RowError}
use Rattle.file_schema.specs.declared.error.RowError.TheVariants as rows
use Rattle.file_schema.specs.Failures.{failure_of, meaning_of}
use Rattle.file_schema.specs.Tables.{schema}
use Rattle.file_schema.specs.Parts.{row_shown}
use Rattle.file_schema.specs.Shapes.{command_in, over, plainly}
use Rattle.file_reads.specs.Alone.{RunsAloneIn, is_accepted, is_alone}
use Rattle.file_reads.specs.Select.{IsSelectIn}
use Rattle.file_reads.proofs.Loads.{loads}
use Rattle.file_rows.specs.Unread.{IsUnread}
use Rattle.file_scan.specs.declared.error.OpenError.{OpenError}
use Rattle.file_scan.specs.declared.error.OpenError.TheVariants as opening
use Rattle.file_scan.specs.Stopped.{HasEndlessTable, IsStopped, WhereClosed, WhereStopped}

-- ---- earlier and later

more_before : (a b c : ℕ) → a ≤ b → MoreFaults b c → MoreFaults a c
more_before a b c low h = omega arith

-- what stopped a later call, where nothing had changed
pub stopped_later : (old mid new : State) → IsUnchanged old mid → Survives old mid (λ _. ⊥) → IsStopped mid new → IsStopped old new
stopped_later old mid new same first (inl more) = inl (more_before old.faults mid.faults new.faults first.counts more)
stopped_later old mid new same first (inr (inl limit)) = inr (inl (subst IsSome first.limit limit))
stopped_later old mid new same first (inr (inr endless)) = inr (inr (subst (λ (d : Database). HasEndlessTable d.trees) same.0.now_is endless))

-- one fact from another
pub where_stopped : (e : RowError) (P Q : Type 0) → WhereStopped P e → (P → Q) → WhereStopped Q e
where_stopped rows.Memory P Q h k = tt
where_stopped rows.Foreign P Q h k = tt
where_stopped rows.Damaged P Q h k = tt
where_stopped rows.Store P Q h k = k h

pub err_stopped : {T : Type 0} (r : Result T RowError) (P Q : Type 0) → IfErr r (WhereStopped P) → (P → Q) → IfErr r (WhereStopped Q)
err_stopped (Ok x) P Q h k = tt
err_stopped (Err e) P Q h k = where_stopped e P Q h k

-- a row that can't be read doesn't stop the store
pub unread_goes_on : (D P : Type 0) (e : RowError) → IsUnread D e → WhereStopped P e
unread_goes_on D P rows.Memory h = tt
unread_goes_on D P rows.Foreign h = tt
unread_goes_on D P rows.Damaged h = tt
unread_goes_on D P rows.Store h = absurd h

-- a file isn't opened because rows of it weren't read
pub closed_by : (e : RowError) (o : OpenError) (P : Type 0) → WhereClosed (e ≡ rows.Store) o → WhereStopped P e → WhereClosed P o
closed_by e opening.Memory P is h = tt
closed_by e opening.NotAShop P is h = tt
closed_by e (opening.Version version) P is h = tt
closed_by e (opening.Damaged rule) P is h = tt
closed_by e opening.Store P is h = subst (WhereStopped P) is h

pub closed_so : (o : OpenError) (P Q : Type 0) → WhereClosed P o → (P → Q) → WhereClosed Q o
closed_so opening.Memory P Q h k = tt
closed_so opening.NotAShop P Q h k = tt
closed_so (opening.Version version) P Q h k = tt
closed_so (opening.Damaged rule) P Q h k = tt
closed_so opening.Store P Q h k = k h

pub never_closed : {T : Type 0} (r : Result T OpenError) (P : Type 0) → IfErr r (WhereClosed ⊥) → IfErr r (WhereClosed P)
never_closed (Ok x) P h = tt
never_closed (Err o) P h = closed_so o ⊥ P h (λ none. absurd none)

pub closed_always : {T : Type 0} (r : Result T OpenError) (P : Type 0) → P → IfErr r (WhereClosed P)
closed_always (Ok x) P p = tt
closed_always (Err o) P p = closed_so o (Unit {0}) P (closed_any o) (λ _. p)
  where
    closed_any : (o : OpenError) → WhereClosed (Unit {0}) o
    closed_any opening.Memory = tt
    closed_any opening.NotAShop = tt
    closed_any (opening.Version version) = tt
    closed_any (opening.Damaged rule) = tt
    closed_any opening.Store = tt

pub err_closed : {T : Type 0} (r : Result T RowError) (o : OpenError) (P : Type 0) → WhereClosed (r ≡ Err rows.Store) o → IfErr r (WhereStopped P) → WhereClosed P o
err_closed r o P is h = closed_so o _ P is (λ e. subst (λ x. IfErr x (WhereStopped P)) e h)

-- ---- a query that failed

as_told : (P : Type 0) (e d : Error) → e ≡ d → WhereStopped P (failure_of d) → WhereStopped P (failure_of e)
as_told P e d is h = subst (λ x. WhereStopped P (failure_of x)) (sym is) h

of_meaning : (P : Type 0) (fault : CompileError) → WhereStopped P (meaning_of fault)
of_meaning P compile.OutOfMemory = tt
of_meaning P (compile.Parse parse.OutOfMemory) = tt
of_meaning P fault = tt

both : (a b : Bool) → (a && b) ≡ true → (a ≡ true) × (b ≡ true)
both true true e = (refl, refl)
both true false e = absurd cc
both false b e = absurd cc

module _ {s : Schema} (sql : List ℕ) (tree : ℕ) (is : IsSelectIn s sql tree []) (alone : RunsAloneIn s sql) (old new : State) (known : old.now.schema ≡ s) (opened : IsTrue old.is_open) where
  -- what the text compiles to
  record Asked (c : Compiled) : Type 0 where
    whole : length sql ≤ c.tail
    given : length c.names ≡ 0
    accepted : is_accepted s (Select (plainly (over tree [] is.project is.order)) is.names) ≡ true
    command : c.command ≡ Select (plainly (over tree [] is.project is.order)) is.names
    plain : c.formats ≡ []

  asked : (c : Compiled) → understood old.now.schema sql ≡ Ok c → Asked c
  asked c at =
      let here : understood s sql ≡ Ok c = sym (ap (λ k. understood k sql) known) ∙ at in
      let all : is_alone s sql (Ok c) ≡ true = subst (λ r. is_alone s sql r ≡ true) here alone in
      let first = both (nat_le (length sql) c.tail) ((length c.names == 0) && is_accepted s c.command) all in
      let rest = both (length c.names == 0) (is_accepted s c.command) first.1 in
      let command : c.command ≡ Select (plainly (over tree [] is.project is.order)) is.names =
      (let both : Some c.command ≡ Some (Select (plainly (over tree [] is.project is.order)) is.names) = sym (ap command_in at) ∙ ap (λ k. command_in (understood k sql)) known ∙ is.asks.0 in cc) in
      let low = first.0 in
      let none = rest.0 in
      record {
        whole = grind (arith, nat_tests, low);
        given = grind (arith, nat_tests, none);
        accepted = subst (λ k. is_accepted s k ≡ true) command rest.1;
        command = command;
        plain = (subst IsPlain here is.asks.1).1;
      }

  no_statement : (e : Error) → IsNoStatement old sql [] e → WhereStopped (IsStopped old new) (failure_of e)
  no_statement e (inl h) = as_told (IsStopped old new) e _ h.2 (of_meaning (IsStopped old new) h.0)
  no_statement e (inr (c, at, inl h)) = absurd (h.0 (asked c at).whole)
  no_statement e (inr (c, at, inr (inl h))) = absurd (h.0 (sym (asked c at).given))
  no_statement e (inr (c, at, inr (inr h))) = absurd (h.0 (asked c at).plain)

  of_store : (cause : StoreError) → HasCause old new ⊥ cause → WhereStopped (IsStopped old new) (failure_of (store_error cause))
  of_store OutOfMemory h = tt
  of_store Io h = inl h
  of_store Corrupt h = inl h
  of_store Full h = inl h
  of_store Broken h = absurd (let never : true ≡ false = sym opened ∙ h in cc)
  of_store Unstorable h = absurd h

  not_run : (e : Error) → IsNotRun old new sql [] e → WhereStopped (IsStopped old new) (failure_of e)
  unfolding IsNotRun
  not_run e (inl h) = no_statement e h.0
  not_run e (inr h) = as_told (IsStopped old new) e _ h.1 (of_store h.0 h.2)

  -- its query is refused for a limit of steps alone
  limited : (c : Compiled) → understood old.now.schema sql ≡ Ok c → (now : ℕ) (db : Database) → IsSourceOf (reads_listing old.now.schema sql) old.now db → (e : Error)
      → RefusesToRead old.step_limit c.command db (timed [] c.formats now) e → WhereStopped (IsStopped old new) (failure_of e)
  limited c at now db source e h =
      let it = asked c at in
      let same : db ≡ old.now = subst (λ b. IsSourceOf b old.now db) (ap (λ k. reads_listing k sql) known ∙ is.unlisted) source in
      let schema_is : db.schema ≡ s = ap (λ (d : Database). d.schema) same ∙ known in
      let bare : timed [] c.formats now ≡ [] = ap (λ f. timed [] f now) it.plain in
      let refused = subst (λ k. RefusesToRead old.step_limit k db (timed [] c.formats now) e) it.command h in
      elim refused [
        | inl typed ↦ absurd (let never : true ≡ false = sym it.accepted ∙ rw (schema_is, bare) at typed.1 in cc)
        | inr other ↦ elim other [
          | inl sum ↦ elim sum.1 [ inl none ↦ absurd none | inr any ↦ absurd any.4 ]
          | inr steps ↦ as_told (IsStopped old new) e _ steps.0 (inr (inl steps.1))
        ]
      ]

  not_shown : (c : Compiled) → understood old.now.schema sql ≡ Ok c → (now : ℕ) (e : Error) (r : Option Returning) → r ≡ None → FailsToShow old new sql c (timed [] c.formats now) e r
      → WhereStopped (IsStopped old new) (failure_of e)
  not_shown c at now e None none h = limited c at now h.0 h.1 e h.2
  not_shown c at now e (Some what) none h = absurd (cc)

  -- it is told as the store's refusal only where the store stopped
  pub stops : (e : Error) → FailsToQuery sql [] old new e → WhereStopped (IsStopped old new) (failure_of e)
  unfolding FailsToQuery
  stops e (inl h) = not_run e h
  stops e (inr h) = not_shown h.0 h.1.is h.1.now e h.0.returning (is.reads old.now.schema h.0 h.1.is) h.2

-- so many rows were shown of its table
pub endless : {of : Schema} (sql : List ℕ) (tree : ℕ) (is : IsSelectIn of sql tree []) (s : State) → s.now.schema ≡ of → IsUnchanged s s → (all : List Row) → Begins sql [] s all → 18446744073709551615 ≤ length all → HasEndlessTable s.now.trees
endless sql tree is s known same all begins many =
    let command : (c : Compiled) → understood s.now.schema sql ≡ Ok c → c.command ≡ Select (plainly (over tree [] is.project is.order)) is.names = λ c at.
    (let both : Some c.command ≡ Some (Select (plainly (over tree [] is.project is.order)) is.names) = sym (ap command_in at) ∙ ap (λ k. command_in (understood k sql)) known ∙ is.asks.0 in cc) in
    let whole = begins_shown sql [] s s all begins same (λ c db it source. subst (λ k. EndsIn k db (timed [] c.formats it.now)) (sym (command c it.is)) tt) in
    let count : length (all ++ whole.0) ≡ length (s.now.trees tree) = sym (length_permutation _ _ (loads sql tree is s s known (all ++ whole.0) whole.1)) ∙ length-map (s.now.trees tree) (row_shown schema tree) in
    (tree, omega (arith, many, count, length-append all whole.0))
