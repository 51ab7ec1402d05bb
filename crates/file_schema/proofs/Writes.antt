-- The rows of a table with an INTEGER PRIMARY KEY after each of the three writes.
use Rattle.std.proofs.Common.{◌≡◌, ℕ, ℤ, List, [], ◌∷◌, length, ◌/◌, map, filter, not, Bool, true, false, cond, ◌&&◌, Ok, refl, sym, ap, subst, subst₂, ◌∙◌, arith, All, drop}
use Rattle.std.specs.List.{list_any}
use Rattle.std.specs.List.Sorted.{IsPermutation}
use Rattle.std.specs.declared.cmp.Ordering.TheVariants.{Less, Equal, Greater}
use Rattle.std.specs.Ordering.{is_eq, int_cmp}
use Rattle.std.proofs.lemmas.Cmp.{int_ranked}
use Rattle.std.proofs.lemmas.List.Elements.{All-nil, All-cons, All-head, All-tail, All-map}
use Rattle.std.proofs.lemmas.List.Sorted.{length_permutation, All-permutation}
use Rattle.sqlite_value.specs.declared.value.Value.{Value}
use Rattle.sqlite_value.specs.declared.value.Value.TheVariants.{Null, Int, Real, Text, Blob}
use Rattle.sqlite_value.specs.Order.{Row, column, value_cmp}
use Rattle.sqlite_value.proofs.OrderLemmas.{value_cmp-Int}
use Rattle.sqlite_trees.specs.Tree.{put_row, rowid, has_rowid}
use Rattle.sqlite_trees.specs.View.{is_int}
use Rattle.sqlite_sql.specs.Term.{Term, col, eval_all}
use Rattle.sqlite_schema.specs.declared.schema.Schema.{Schema}
use Rattle.sqlite_schema.specs.declared.schema.Table.{Table}
use Rattle.sqlite_rules.specs.Calls.{ids_of}
use Rattle.sqlite_rules.specs.Edit.{Edit, without_all, id_in, numbered, with_rowid}
use Rattle.sqlite_rules.specs.Cast.{cast_row}
use Rattle.sqlite_rules.specs.declared.error.Rowids.TheVariants.{Chosen, Given}
use Rattle.sqlite_schema.specs.declared.command.Command.TheVariants.{Insert, Update}
use Rattle.sqlite_schema.specs.declared.command.Source.TheVariants.{Values}
use Rattle.sqlite.specs.Effect.{Database, value_rows}
use Rattle.sqlite.specs.Listing.{understood}
use Rattle.sqlite.specs.State.{State, Executes}
use Rattle.sqlite.proofs.Callers.{IsPlain, command_of, one_permutation}
use Rattle.file_schema.specs.Shapes.{over, plainly, equals, delete_keyed}
use Rattle.file_schema.specs.Writes.{Edits}
use Rattle.file_schema.proofs.Answered.{passes, answered}
use Rattle.file_schema.specs.Plain.{IsPlainTable}
use Rattle.file_schema.proofs.Generic.{deletes, inserts, updates}
use Rattle.file_schema.proofs.Keyed.{without, put_fresh, equals_rowid, same_filter, without_each}

abbrev pub AreNumbered : List Row → Type 0
AreNumbered = All (λ r. is_int (rowid r) ≡ true)

stays_true : (b : Bool) → (b && true) ≡ b
stays_true true = refl
stays_true false = refl

pub passes_rowid : (id : ℤ) (more : Row) (r : Row) → passes (equals (col 1 0) (col 0 0) ∷ []) (Int id ∷ more) r ≡ has_rowid id r
passes_rowid id more r = stays_true _ ∙ equals_rowid (rowid r) id

pub id_of_match : (v : Value) (id : ℤ) → is_int v ≡ true → is_eq (value_cmp v (Int id)) ≡ true → v ≡ Int id
id_of_match (Int n) id whole same =
    elim (int_cmp n id) as (λ o. o ≡ int_cmp n id → is_eq o ≡ true → Int n ≡ Int id) [
      | Less ↦ λ e no. absurd cc
      | Equal ↦ λ e _. ap Int (int_ranked n id Equal e)
      | Greater ↦ λ e no. absurd cc
    ] refl (rw value_cmp-Int at same)
id_of_match Null id whole same = absurd cc
id_of_match (Real x) id whole same = absurd cc
id_of_match (Text t) id whole same = absurd cc
id_of_match (Blob b) id whole same = absurd cc

-- each row that is found has the rowid
found_ids : (id : ℤ) (rows : List Row) → AreNumbered rows → All (λ r. rowid r ≡ Int id) (filter (has_rowid id) rows)
found_ids id [] all = All-nil (λ r. rowid r ≡ Int id)
found_ids id (r ∷ rows) all =
    let rest = found_ids id rows (All-tail (λ r. is_int (rowid r) ≡ true) r rows all) in
    let whole = All-head (λ r. is_int (rowid r) ≡ true) r rows all in
    elim (has_rowid id r) as (λ b. (b ≡ true → rowid r ≡ Int id) → All (λ r. rowid r ≡ Int id) (cond b (r ∷ filter (has_rowid id) rows) (filter (has_rowid id) rows))) [
      | true ↦ λ it. All-cons (λ r. rowid r ≡ Int id) r (filter (has_rowid id) rows) (it refl) rest
      | false ↦ λ _. rest
    ] (id_of_match (rowid r) id whole)

none_found : (id : ℤ) (rows : List Row) → length (filter (has_rowid id) rows) ≡ 0 → rows ≡ without id rows
none_found id [] e = refl
none_found id (r ∷ rows) e =
    elim (has_rowid id r) as (λ b. length (cond b (r ∷ filter (has_rowid id) rows) (filter (has_rowid id) rows)) ≡ 0 → r ∷ rows ≡ cond (not b) (r ∷ without id rows) (without id rows)) [
      | true ↦ λ some. absurd (omega arith)
      | false ↦ λ nothing. ap (λ l. r ∷ l) (none_found id rows nothing)
    ] e

any_same : (id : ℤ) (r : Row) (ids : List ℤ) → All (λ i. i ≡ id) ids → (b : Bool) → (has_rowid id r ≡ b) → list_any (λ i. has_rowid i r) (id ∷ ids) ≡ b
any_same id r [] all true e = rw e
any_same id r [] all false e = rw e
any_same id r (i ∷ ids) all true e = rw e
any_same id r (i ∷ ids) all false e =
    let here : i ≡ id = All-head (λ j. j ≡ id) i ids all in
    let more = any_same id r ids (All-tail (λ j. j ≡ id) i ids all) false e in
    rw (e, here) more

without_same : (id : ℤ) (ids : List ℤ) (rows : List Row) → All (λ i. i ≡ id) ids → (r : Row) → not (list_any (λ i. has_rowid i r) (id ∷ ids)) ≡ not (has_rowid id r)
without_same id ids rows all r = ap not (any_same id r ids all (has_rowid id r) refl)

took_out : (id : ℤ) (ids : List ℤ) (rows : List Row) → All (λ i. i ≡ id) ids → length ids ≡ length (filter (has_rowid id) rows) → without_all rows ids ≡ without id rows
took_out id [] rows all len = none_found id rows (sym len)
took_out id (i ∷ ids) rows all len =
    let here : i ≡ id = All-head (λ j. j ≡ id) i ids all in
    let rest = All-tail (λ j. j ≡ id) i ids all in
    ap (λ j. without_all rows (j ∷ ids)) here ∙ (without_each rows (id ∷ ids) ∙ same_filter (λ r. not (list_any (λ j. has_rowid j r) (id ∷ ids))) (λ r. not (has_rowid id r)) (without_same id ids rows rest) rows)

one_id : (id : ℤ) (rows : List Row) → All (λ r. rowid r ≡ Int id) rows → All (λ (r : Row). column r 0 ≡ Int id) (map (λ r. rowid r ∷ []) rows)
one_id id rows all = All-map (λ (r : Row). column r 0 ≡ Int id) (λ r. rowid r ∷ []) rows all

ids_are : (id : ℤ) (rows : List Row) → All (λ (r : Row). column r 0 ≡ Int id) rows → All (λ i. i ≡ id) (ids_of rows)
ids_are id [] all = All-nil (λ i. i ≡ id)
ids_are id (r ∷ rows) all =
    let here = ap id_in (All-head (λ (s : Row). column s 0 ≡ Int id) r rows all) in
    All-cons (λ i. i ≡ id) (id_in (rowid r)) (ids_of rows) here (ids_are id rows (All-tail (λ (s : Row). column s 0 ≡ Int id) r rows all))

as_many : {A B : Type 0} (f : A → B) (xs : List A) → length (map f xs) ≡ length xs
as_many f [] = refl
as_many f (x ∷ xs) = grind (arith, as_many f xs)

passes_all : (id : ℤ) (rows : List Row) → filter (passes (equals (col 1 0) (col 0 0) ∷ []) (Int id ∷ [])) rows ≡ filter (has_rowid id) rows
passes_all id = same_filter (passes (equals (col 1 0) (col 0 0) ∷ []) (Int id ∷ [])) (has_rowid id) (passes_rowid id [])

free_of : (b : Bool) → (not b && true) ≡ true → b ≡ false
free_of true e = absurd cc
free_of false e = refl

module _ (schema : Schema) (at : ℕ) (table : Table) (is : IsPlainTable schema at table) (sql : List ℕ) (plain : IsPlain (understood schema sql)) (old new : State) (has : old.now.schema ≡ schema)
    (inside : old.in_transaction ≡ true) (limit : new.step_limit ≡ old.step_limit) where
  -- INSERT of one row with its rowid adds the row
  pub inserts_keyed : (terms : List Term) (width : ℕ) → command_of (understood schema sql) ≡ Insert at (Values terms width) → (params source : Row) → value_rows params width (length terms / width) terms ≡ source ∷ []
      → (id : ℤ) (rest : Row) → cast_row table source ≡ Int id ∷ rest → (count : ℕ) → Executes sql params old new (Ok count)
      → Edits schema table [] ((Int id ∷ rest) ∷ []) old new × IsPermutation ((Int id ∷ rest) ∷ old.now.trees table.tree) (new.now.trees table.tree)
  inserts_keyed terms width command params source sources id rest made count h =
      let rows = old.now.trees table.tree in
      let did = inserts schema at table is sql plain params old new has inside limit terms width command count h in
      let news : did.0.news ≡ (Int id ∷ rest) ∷ [] = ap (λ (e : Edit). e.news) did.1 ∙ ap (λ l. numbered Chosen rows (map (λ s. cast_row table (drop 0 s)) l)) sources ∙ ap (λ r. with_rowid Chosen rows r ∷ []) made in
      let gone : did.0.gone ≡ [] = ap (λ (e : Edit). e.gone) did.1 in
      let it = subst₂ (λ g n. Edits schema table g n old new) gone news did.2 in
      (it, subst (IsPermutation ((Int id ∷ rest) ∷ rows)) (sym it.applied.rows) (put_fresh (Int id ∷ rest) rows (free_of _ it.applied.fresh)))

module _ (schema : Schema) (at : ℕ) (table : Table) (is : IsPlainTable schema at table) (sql : List ℕ) (plain : IsPlain (understood schema sql)) (old new : State) (has : old.now.schema ≡ schema)
    (inside : old.in_transaction ≡ true) (limit : new.step_limit ≡ old.step_limit) (ints : AreNumbered (old.now.trees table.tree)) where
  -- DELETE .. WHERE id = ?1 leaves the rows with another rowid
  pub deletes_keyed : command_of (understood schema sql) ≡ delete_keyed at table.tree → (id : ℤ) (count : ℕ) → Executes sql (Int id ∷ []) old new (Ok count)
      → (gone : List ℤ) × Edits schema table gone [] old new × (new.now.trees table.tree ≡ without id (old.now.trees table.tree))
  deletes_keyed command id count h =
      let rows = old.now.trees table.tree in
      let q = over table.tree (equals (col 1 0) (col 0 0) ∷ []) (col 1 0 ∷ []) [] in
      let did = deletes schema at table is sql plain (Int id ∷ []) old new has inside limit (plainly q) command count h in
      let db : Database = record { schema = schema; trees = old.now.trees } in
      let shown = answered db table.tree (equals (col 1 0) (col 0 0) ∷ []) (col 1 0 ∷ []) [] (Int id ∷ []) did.0 did.1 in
      let found : IsPermutation (map (λ (r : Row). rowid r ∷ []) (filter (has_rowid id) rows)) did.0 =
      subst (λ l. IsPermutation (map (λ (r : Row). rowid r ∷ []) l) did.0) (passes_all id rows) shown in
      let each = All-permutation (λ (r : Row). column r 0 ≡ Int id) _ did.0 found (one_id id (filter (has_rowid id) rows) (found_ids id rows ints)) in
      let many : length (ids_of did.0) ≡ length (filter (has_rowid id) rows) = as_many (λ r. id_in (rowid r)) did.0 ∙ length_permutation _ did.0 found ∙ as_many (λ (r : Row). rowid r ∷ []) (filter (has_rowid id) rows) in
      (ids_of did.0, did.2, did.2.applied.rows ∙ took_out id (ids_of did.0) rows (ids_are id did.0 each) many)

  single : {A : Type 0} (l : List A) → length l ≡ 1 → (x : A) × (l ≡ x ∷ [])
  single [] e = absurd (omega arith)
  single (x ∷ []) e = (x, refl)
  single (x ∷ y ∷ more) e = absurd (omega arith)

  given_as_is : (rows news : List Row) → numbered Given rows news ≡ news
  given_as_is rows [] = refl
  given_as_is rows (r ∷ news) = ap (λ l. r ∷ l) (given_as_is (put_row r rows) news)

  module _ (project : List Term) (command : command_of (understood schema sql) ≡ Update at (plainly (over table.tree (equals (col 1 0) (col 0 0) ∷ []) project []))) (id : ℤ) (more : Row) where
    abbrev given : Row
    given = Int id ∷ more

    -- the rows that are found, and what was made of each
    updated : (count : ℕ) → Executes sql given old new (Ok count)
        → (news : List Row) × IsPermutation (map (λ (r : Row). eval_all project (given ∷ r ∷ [])) (filter (has_rowid id) (old.now.trees table.tree))) news
        × Edits schema table (ids_of news) (map (λ (s : Row). cast_row table (drop 1 s)) news) old new × (count ≡ length (filter (has_rowid id) (old.now.trees table.tree)))
    updated count h =
        let rows = old.now.trees table.tree in
        let f = λ (r : Row). eval_all project (given ∷ r ∷ []) in
        let did = updates schema at table is sql plain given old new has inside limit (plainly (over table.tree (equals (col 1 0) (col 0 0) ∷ []) project [])) command count h in
        let db : Database = record { schema = schema; trees = old.now.trees } in
        let shown = answered db table.tree (equals (col 1 0) (col 0 0) ∷ []) project [] given did.0 did.1 in
        let found : IsPermutation (map f (filter (has_rowid id) rows)) did.0 = subst (λ l. IsPermutation (map f l) did.0) (same_filter (passes (equals (col 1 0) (col 0 0) ∷ []) given) (has_rowid id) (passes_rowid id more) rows) shown in
        let edit = did.2.0 in
        let news : edit.news ≡ map (λ (s : Row). cast_row table (drop 1 s)) did.0 = ap (λ (e : Edit). e.news) did.2.1 ∙ given_as_is _ _ in
        let gone : edit.gone ≡ ids_of did.0 = ap (λ (e : Edit). e.gone) did.2.1 in
        let many : count ≡ length (filter (has_rowid id) rows) = did.2.3 ∙ ap length news ∙ as_many (λ (s : Row). cast_row table (drop 1 s)) did.0 ∙ length_permutation _ did.0 found ∙ as_many f (filter (has_rowid id) rows) in
        (did.0, found, subst₂ (λ g n. Edits schema table g n old new) gone news did.2.2, many)

    none_there : {A : Type 0} (l : List A) → length l ≡ 0 → l ≡ []
    none_there [] e = refl
    none_there (x ∷ l) e = absurd (omega arith)

    -- UPDATE .. WHERE id = ?1 that counts no row: no row has the id, and all stay
    pub misses_keyed : Executes sql given old new (Ok 0) → Edits schema table [] [] old new × (new.now.trees table.tree ≡ without id (old.now.trees table.tree)) × (filter (has_rowid id) (old.now.trees table.tree) ≡ [])
    misses_keyed h =
        let rows = old.now.trees table.tree in
        let did = updated 0 h in
        let none : filter (has_rowid id) rows ≡ [] = none_there _ (sym did.3) in
        let empty : did.0 ≡ [] = none_there did.0 (length_permutation _ did.0 did.1 ∙ ap (λ l. length (map (λ (r : Row). eval_all project (given ∷ r ∷ [])) l)) none) in
        let it : Edits schema table [] [] old new = subst (λ (l : List Row). Edits schema table (ids_of l) (map (λ (s : Row). cast_row table (drop 1 s)) l) old new) empty did.2 in
        (it, it.applied.rows ∙ none_found id rows (ap length none), none)

    -- UPDATE .. WHERE id = ?1 that counts one row, whose new values may be those of the row that stood
    pub updates_one : (source : Row → Row) → ((r : Row) → eval_all project (given ∷ r ∷ []) ≡ rowid r ∷ rowid r ∷ source r) → Executes sql given old new (Ok 1)
        → (r : Row) × (filter (has_rowid id) (old.now.trees table.tree) ≡ r ∷ []) × ((rest : Row) → cast_row table (Int id ∷ source r) ≡ Int id ∷ rest
        → Edits schema table (id ∷ []) ((Int id ∷ rest) ∷ []) old new × IsPermutation ((Int id ∷ rest) ∷ without id (old.now.trees table.tree)) (new.now.trees table.tree))
    updates_one source shape h =
        let rows = old.now.trees table.tree in
        let f = λ (r : Row). eval_all project (given ∷ r ∷ []) in
        let did = updated 1 h in
        let one = single (filter (has_rowid id) rows) (sym did.3) in
        let id_is : rowid one.0 ≡ Int id = All-head (λ (r : Row). rowid r ≡ Int id) one.0 [] (subst (All (λ (r : Row). rowid r ≡ Int id)) one.1 (found_ids id rows ints)) in
        let row_is : did.0 ≡ (Int id ∷ Int id ∷ source one.0) ∷ [] =
        one_permutation (f one.0) did.0 (subst (λ l. IsPermutation (map f l) did.0) one.1 did.1) ∙ ap (λ (r : Row). r ∷ []) (shape one.0 ∙ ap (λ v. v ∷ v ∷ source one.0) id_is) in (
          one.0,
          one.1,
          λ rest made.
              let news : map (λ (s : Row). cast_row table (drop 1 s)) did.0 ≡ (Int id ∷ rest) ∷ [] = ap (map (λ (s : Row). cast_row table (drop 1 s))) row_is ∙ ap (λ (r : Row). r ∷ []) made in
              let it = subst₂ (λ g n. Edits schema table g n old new) (ap ids_of row_is) news did.2 in
              (it, subst (IsPermutation ((Int id ∷ rest) ∷ without id rows)) (sym it.applied.rows) (put_fresh (Int id ∷ rest) (without id rows) (free_of _ it.applied.fresh))),
        )

    -- UPDATE .. WHERE id = ?1 that counts one row puts the row in the place of the one with its rowid
    pub updates_keyed : (rest source : Row) → ((r : Row) → eval_all project (given ∷ r ∷ []) ≡ rowid r ∷ rowid r ∷ source) → cast_row table (Int id ∷ source) ≡ Int id ∷ rest → Executes sql given old new (Ok 1)
        → Edits schema table (id ∷ []) ((Int id ∷ rest) ∷ []) old new × IsPermutation ((Int id ∷ rest) ∷ without id (old.now.trees table.tree)) (new.now.trees table.tree)
    updates_keyed rest source shape made h = (updates_one (λ _. source) shape h).2 rest made
